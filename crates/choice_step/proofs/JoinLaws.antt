-- What is emitted for records and after that for more of them is emitted for all; and all of it is justified.
use Rattle.choice_step.proofs.Vocabulary.{Step, append_assoc, ap, sym, ◌∙◌, subst, refl, map-append, StepKind, Inserted, System, Record, Plan, ActedStep, StepIsJustified, AllAreJustified, steps_of}
use Rattle.choice_step.proofs.Vocabulary.{Follows}
use Rattle.std.proofs.lemmas.List.{append-nil}
use Rattle.std.specs.Prelude.{◌≡◌, List, ◌++◌, [], ◌∷◌}

pub steps_join : (out more : List ActedStep) → steps_of (out ++ more) ≡ steps_of out ++ steps_of more
steps_join out more = map-append (λ (o : ActedStep). o.step) out more

pub steps_behind : (trace : List Step) (out more : List ActedStep)
    → (trace ++ steps_of out) ++ steps_of more ≡ trace ++ steps_of (out ++ more)
steps_behind trace out more =
    append_assoc trace (steps_of out) (steps_of more)
    ∙ ap (λ (steps : List Step). trace ++ steps) (sym (steps_join out more))

-- ---- what is emitted

pub follows_join : (plans : List Plan) (trace : List Step) (records more : List Record) (out others : List ActedStep)
    → Follows plans trace records out → Follows plans (trace ++ steps_of out) more others
    → Follows plans trace (records ++ more) (out ++ others)
follows_join plans trace [] more out others none later =
    subst (λ (first : List ActedStep). Follows plans trace more (first ++ others)) (sym none)
    (subst (λ (steps : List Step). Follows plans steps more others) (append-nil trace)
    (subst (λ (first : List ActedStep). Follows plans (trace ++ steps_of first) more others) none later))
follows_join plans trace (next ∷ records) more out others
    (inserted, answer, rest, inserts, answers, follows, are) later = (
      inserted,
      answer,
      rest ++ others,
      inserts,
      answers,
      follows_join plans (trace ++ steps_of (inserted ++ answer)) records more rest others follows
          (subst (λ (steps : List Step). Follows plans steps more others)
          (ap (λ (steps : List ActedStep). trace ++ steps_of steps) are
          ∙ sym (steps_behind trace (inserted ++ answer) rest)) later),
      ap (λ (steps : List ActedStep). steps ++ others) are ∙ append_assoc (inserted ++ answer) rest others,
    )

-- what is emitted for records is what is emitted for the first ones, and what is emitted after that for the others
pub record Splits (plans : List Plan) (trace : List Step) (records more : List Record) (out : List ActedStep)
    : Type 0 where
  pub first : List ActedStep
  pub last : List ActedStep
  pub split : out ≡ first ++ last
  pub follows : Follows plans trace records first
  pub later : Follows plans (trace ++ steps_of first) more last

pub follows_split : (plans : List Plan) (trace : List Step) (records more : List Record) (out : List ActedStep)
    → Follows plans trace (records ++ more) out → Splits plans trace records more out
follows_split plans trace [] more out follows = record {
  first = [];
  last = out;
  split = refl;
  follows = refl;
  later = subst (λ (steps : List Step). Follows plans steps more out) (sym (append-nil trace)) follows;
}
follows_split plans trace (next ∷ records) more out (inserted, answer, rest, inserts, answers, follows, are) =
    let s = follows_split plans (trace ++ steps_of (inserted ++ answer)) records more rest follows in record {
      first = (inserted ++ answer) ++ s.first;
      last = s.last;
      split = are ∙ ap (λ (steps : List ActedStep). (inserted ++ answer) ++ steps) s.split
          ∙ sym (append_assoc (inserted ++ answer) s.first s.last);
      follows = (inserted, answer, s.first, inserts, answers, s.follows, refl);
      later = subst (λ (steps : List Step). Follows plans steps more s.last)
          (steps_behind trace (inserted ++ answer) s.first) s.later;
    }

-- ---- what is justified

-- what comes after a step that is justified may be another thing, for more steps to be answered
justified_weaker : (plans : List Plan) (trace : List Step) (kind : StepKind) (given more : List Step) (o : ActedStep)
    (P Q : List Step → Type 0) → ((rest : List Step) → P rest → Q (rest ++ more))
    → StepIsJustified plans trace kind given o P → StepIsJustified plans trace kind (given ++ more) o Q
justified_weaker plans trace Inserted given more o P Q then (needed, actions, rest) = (needed, actions, then given rest)
justified_weaker plans trace System [] more o P Q then none = absurd none
justified_weaker plans trace System (step ∷ given) more o P Q then (actions, rest) = (actions, then given rest)

pub justified_join : (plans : List Plan) (trace : List Step) (given more : List Step) (out others : List ActedStep)
    → AllAreJustified plans trace given out → AllAreJustified plans (trace ++ steps_of out) more others
    → AllAreJustified plans trace (given ++ more) (out ++ others)
justified_join plans trace given more [] others none rest =
    subst (λ (steps : List Step). AllAreJustified plans trace (steps ++ more) others) (sym none)
    (subst (λ (steps : List Step). AllAreJustified plans steps more others) (append-nil trace) rest)
justified_join plans trace given more (o ∷ out) others each rest =
    justified_weaker plans trace o.kind given more o (λ left. AllAreJustified plans (trace ++ o.step ∷ []) left out)
    (λ left. AllAreJustified plans (trace ++ o.step ∷ []) left (out ++ others))
    (λ left front. justified_join plans (trace ++ o.step ∷ []) left more out others front
    (subst (λ (steps : List Step). AllAreJustified plans steps more others)
    (sym (append_assoc trace (o.step ∷ []) (steps_of out))) rest))
    each
