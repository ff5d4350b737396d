-- The sample policy is read and accepted.
use Rattle.enf_run.proofs.Vocabulary.{◌≡◌, List, ℕ, Result, Ok, Err, ap, refl, subst, sym, ◌∙◌, true≢false, Formula, RefusesPolicy, ArePlanned, typed_of, CallGivesPolicy, IsPolicyAnswer, Rule}
use Rattle.enf_run.proofs.Vocabulary.{policy_rules_of, policy_text, sample_entries, sample_rules, NameEntry, all_formulas}
use Rattle.formula_reader.specs.declared.policies.PolicyRefusal.{PolicyRefusal}
use Rattle.enf_run.proofs.FileLemmas.{same_formulas}
use Rattle.enf_run.proofs.SampleLemmas.{sample_is_accepted}
use Rattle.enf_run.proofs.drills.typed_sample.Goals.{in-NoMemory, in_default, in-NoMemory-matches, in_default-matches}
use Rattle.formula_reader.specs.declared.policies.PolicyRefusal.TheVariants as refusals
use Rattle.enf_run.proofs.drills.typed_sample.Goals as goal

abbrev answer : Result (List Rule) PolicyRefusal
answer = Ok sample_rules

read_as : (entries : List NameEntry) (bytes : List ℕ) → entries ≡ sample_entries → bytes ≡ policy_text → IsPolicyAnswer sample_entries policy_text answer → IsPolicyAnswer entries bytes answer
read_as entries bytes named text read =
    subst (λ (b : List ℕ). IsPolicyAnswer entries b answer) (sym text) (subst (λ (es : List NameEntry). IsPolicyAnswer es policy_text answer) (sym named) read)

-- a text that is read is refused in no other way than by running out of memory
only_memory : (why : PolicyRefusal) → CallGivesPolicy (Err why) answer → why ≡ refusals.NoMemory
only_memory refusals.NoMemory gives = refl
only_memory (refusals.Syntax place) gives = absurd (cc)
only_memory (refusals.UnknownName place) gives = absurd (cc)
only_memory (refusals.Arity place) gives = absurd (cc)
only_memory (refusals.SortClash place) gives = absurd (cc)
only_memory (refusals.FreeVariable place) gives = absurd (cc)
only_memory (refusals.Rebound place) gives = absurd (cc)
only_memory (refusals.Limit place) gives = absurd (cc)

pub prove-unreachable-requires : goal.prove-unreachable-requires
prove-unreachable-requires c =
    let read = read_as c.args.signature.now c.sample_policy.result.now c.requires c.sample_policy.ensures.text c.sample_policy.ensures.read in
    elim c.match-matches.branch [
      | in-NoMemory w ↦ true≢false (sym w.matches-is ∙ c.if-prove.true)
      | in_default w ↦ w.in_default.not-NoMemory (only_memory c.in-Err.why (c.in-Err.ensures.only answer read))
    ]

pub prove-unreachable-requires-in-Err-of : goal.prove-unreachable-requires-in-Err-of
prove-unreachable-requires-in-Err-of c =
    let read = read_as c.args.signature.now c.sample_policy.result.now c.requires c.sample_policy.ensures.text c.sample_policy.ensures.read in
    let same : policy_rules_of c.in-Ok.policy ≡ sample_rules = cc (c.in-Ok.ensures.only answer read) in
    let why = c.in-Err-of.why in
    let refused = subst (λ (entries : List NameEntry). RefusesPolicy entries (all_formulas sample_rules) why) c.requires
    (subst (λ (fs : List Formula). RefusesPolicy c.args.signature.now fs why) (same_formulas c.in-Ok.policy.rules ∙ ap all_formulas same) c.in-Err-of.ensures.refused) in
    elim c.match-matches-2.branch [
      | in-NoMemory-matches w ↦ true≢false (sym w.matches-is ∙ c.if-prove-2.true)
      | in_default-matches w ↦ w.in_default-matches.not-NoMemory (c.accepted_is_not_refused.ensures sample_entries (all_formulas sample_rules) why sample_is_accepted refused)
    ]

pub returns-in-Ok-of : goal.returns-in-Ok-of
returns-in-Ok-of c =
    let read = read_as c.args.signature.now c.sample_policy.result.now c.requires c.sample_policy.ensures.text c.sample_policy.ensures.read in
    let same : policy_rules_of c.in-Ok.policy ≡ sample_rules = cc (c.in-Ok.ensures.only answer read) in
    let plans = (typed_of c.in-Ok-of.typed).plans in
    let guards = (typed_of c.in-Ok-of.typed).guards in
    subst (λ (entries : List NameEntry). ArePlanned entries (all_formulas sample_rules) plans guards) c.requires
    (subst (λ (fs : List Formula). ArePlanned c.args.signature.now fs plans guards) (same_formulas c.in-Ok.policy.rules ∙ ap all_formulas same) c.in-Ok-of.ensures.typed.planned)
