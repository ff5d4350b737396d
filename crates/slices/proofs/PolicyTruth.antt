-- Rules and policies of one key on traces and their slices.
use Rattle.slices.proofs.Vocabulary.{◌≡◌, ◌↔◌, ◌⊎◌, ⊎_elim, inl, inr, ℕ, ◌<◌, Bool, true, false, List, length, Option, None, Some, Contains, refl, sym, ap, subst, ◌∙◌, slice_get}
use Rattle.slices.proofs.Vocabulary.{none-some, nat_eq, Formula, Sat, True, False, Atom, Equal, Less, AtMost, Not, And, Or, Implies, Exists, Forall, Prev, Next, Once, Historically, Since}
use Rattle.slices.proofs.Vocabulary.{Eventually, Always, Until, Step, Term, Var, Const, VarId, Value, Valuation, no_values, value_at, with_values, HasKeyValue, HoldsForKey, IsSlicedPolicy}
use Rattle.slices.proofs.Vocabulary.{IsSlicedRule, key_variable, key_variable_of, or_else, variable_among, Keying, origin, slice_of, cond_some, bound_decides, list_any}
use Rattle.slices.proofs.KeyedEvents.{has_value}
use Rattle.slices.proofs.SlicePlaces.{origin_below, origin_covers}
use Rattle.slices.proofs.SlicedTraces.{none_of_others, slice-append, slice_later, slices_are_traces}
use Rattle.slices.proofs.SliceTruth.{same}
use Rattle.slices.proofs.VerdictLemmas.{Says, says_absent, says_left}
use Rattle.slices.specs.machine.Laws.{CoverAllKeys, HoldsByKeys, HoldsForOtherKeys, HoldsWhereLeftOut, MergesSatisfy, SlicesAreGood, SlicesDecide, TruthStays}
use Rattle.trace_meaning.specs.meaning.Traces.{Satisfies}

-- ---- The key variable is one of those that the rule binds.

one_of_two : (a b : Option VarId) (x : VarId) → or_else a b ≡ Some x → (a ≡ Some x) ⊎ (b ≡ Some x)
one_of_two None b x is = inr is
one_of_two (Some y) b x is = inl is

term_among : (xs : List VarId) (term : Option Term) (x : VarId) → variable_among xs term ≡ Some x → Contains xs x
term_among xs None x is = absurd (none-some x is)
term_among xs (Some (Const value)) x is = absurd (none-some x is)
term_among xs (Some (Var y)) x is =
    let parts = cond_some (list_any (λ z. nat_eq z.0 y.0) xs) y x is in
    subst (Contains xs) parts.1 ((bound_decides xs y).0 parts.0)

atom_among : (xs : List VarId) (column : Option ℕ) (terms : List Term) (x : VarId) → key_variable_of xs column terms ≡ Some x → Contains xs x
atom_among xs None terms x is = absurd (none-some x is)
atom_among xs (Some column) terms x is = term_among xs (slice_get terms column) x is

module _ (keying : Keying) (xs : List VarId) (x : VarId) where
  key_among_both : (f g : Formula) → ((key_variable keying xs f ≡ Some x) → Contains xs x) → ((key_variable keying xs g ≡ Some x) → Contains xs x)
      → or_else (key_variable keying xs f) (key_variable keying xs g) ≡ Some x → Contains xs x
  key_among_both f g left right is = ⊎_elim (λ a. left a) (λ b. right b) (one_of_two (key_variable keying xs f) (key_variable keying xs g) x is)

  key_among : (f : Formula) → key_variable keying xs f ≡ Some x → Contains xs x
  key_among (True place) is = absurd (none-some x is)
  key_among (False place) is = absurd (none-some x is)
  key_among (Atom place name terms) is = atom_among xs (keying name) terms x is
  key_among (Equal place s t) is = absurd (none-some x is)
  key_among (Less place s t) is = absurd (none-some x is)
  key_among (AtMost place s t) is = absurd (none-some x is)
  key_among (Not place f) is = key_among f is
  key_among (And place f g) is = key_among_both f g (λ a. key_among f a) (λ b. key_among g b) is
  key_among (Or place f g) is = key_among_both f g (λ a. key_among f a) (λ b. key_among g b) is
  key_among (Implies place f g) is = key_among_both f g (λ a. key_among f a) (λ b. key_among g b) is
  key_among (Exists place ys f) is = key_among f is
  key_among (Forall place ys f) is = key_among f is
  key_among (Prev place interval f) is = key_among f is
  key_among (Next place interval f) is = key_among f is
  key_among (Once place interval f) is = key_among f is
  key_among (Historically place interval f) is = key_among f is
  key_among (Since place interval f g) is = key_among_both f g (λ a. key_among f a) (λ b. key_among g b) is
  key_among (Eventually place interval f) is = key_among f is
  key_among (Always place interval f) is = key_among f is
  key_among (Until place interval f g) is = key_among_both f g (λ a. key_among f a) (λ b. key_among g b) is

-- ---- Rules.

-- a rule of one key is a `forall`
by_rule : (keying : Keying) (P : Formula → Type 0) → ((place : ℕ) (xs : List VarId) (f : Formula) → IsSlicedRule keying (Forall place xs f) → P (Forall place xs f))
    → (rule : Formula) → IsSlicedRule keying rule → P rule
by_rule keying P forall (Forall place xs f) sliced = forall place xs f sliced
by_rule keying P forall rule sliced = absurd sliced

value_from : (variable : Option VarId) (x : VarId) (v : Valuation) (key : Value) → variable ≡ Some x → HasKeyValue variable v key → value_at v x ≡ Some key
value_from variable x v key is has = subst (λ (o : Option VarId). HasKeyValue o v key) is has

value_to : (variable : Option VarId) (x : VarId) (v : Valuation) (key : Value) → variable ≡ Some x → value_at v x ≡ Some key → HasKeyValue variable v key
value_to variable x v key is at = subst (λ (o : Option VarId). HasKeyValue o v key) (sym is) at

pub holds_by_keys : HoldsByKeys
holds_by_keys keying trace i rule sliced =
    by_rule keying (λ r. Sat trace i no_values r ↔ ((key : Value) → HoldsForKey keying key trace i r))
    (λ place xs f is. (
      λ each key values long has. each values long,
      λ each values long.
          let bound = has_value xs values no_values is.0 long (key_among keying xs is.0 f is.1) in
          each bound.0 values long (value_to (key_variable keying xs f) is.0 (with_values xs values no_values) bound.0 is.1 bound.1),
    )) rule sliced

pub truth_stays : TruthStays
truth_stays keying keys key trace j rule sliced among below =
    by_rule keying (λ r. HoldsForKey keying key trace (origin keying keys trace j) r ↔ HoldsForKey keying key (slice_of keying keys trace) j r)
    (λ place xs f is.
    let at = λ (values : List Value) (has : HasKeyValue (key_variable keying xs f) (with_values xs values no_values) key).
    same keying keys is.0 key among trace f is.2 (with_values xs values no_values)
    (value_from (key_variable keying xs f) is.0 (with_values xs values no_values) key is.1 has) j below in (
      λ holds values long has. (at values has).0 (holds values long has),
      λ holds values long has. (at values has).1 (holds values long has),
    )) rule sliced

pub holds_where_left_out : HoldsWhereLeftOut
holds_where_left_out keying keys key trace i rule sliced among out =
    by_rule keying (λ r. HoldsForKey keying key trace i r)
    (λ place xs f is values long has.
    subst (λ d. Says d (Sat trace i (with_values xs values no_values) f)) is.3.0
    (says_left keying keys is.0 key among trace f is.2 i out (with_values xs values no_values)
    (value_from (key_variable keying xs f) is.0 (with_values xs values no_values) key is.1 has))) rule sliced

pub holds_for_other_keys : HoldsForOtherKeys
holds_for_other_keys keying keys key trace i rule sliced other =
    by_rule keying (λ r. HoldsForKey keying key (slice_of keying keys trace) i r)
    (λ place xs f is values long has.
    subst (λ d. Says d (Sat (slice_of keying keys trace) i (with_values xs values no_values) f)) is.3.1
    (says_absent keying is.0 key (slice_of keying keys trace) (none_of_others keying keys key other trace) f is.2 i (with_values xs values no_values)
    (value_from (key_variable keying xs f) is.0 (with_values xs values no_values) key is.1 has))) rule sliced

-- ---- Policies.

-- what holds at each position of the trace holds at each of the slice
rule_in_slice : (keying : Keying) (keys : Value → Bool) (trace : List Step) (rule : Formula) → IsSlicedRule keying rule
    → ((i : ℕ) → i < length trace → Sat trace i no_values rule) → (j : ℕ) → j < length (slice_of keying keys trace)
    → Sat (slice_of keying keys trace) j no_values rule
rule_in_slice keying keys trace rule sliced holds j below =
    (holds_by_keys keying (slice_of keying keys trace) j rule sliced).1 (λ key. by key (keys key) refl)
  where
    by : (key : Value) (b : Bool) → keys key ≡ b → HoldsForKey keying key (slice_of keying keys trace) j rule
    by key true among =
        (truth_stays keying keys key trace j rule sliced among below).0
        ((holds_by_keys keying trace (origin keying keys trace j) rule sliced).0 (holds (origin keying keys trace j) (origin_below keying keys trace j below)) key)
    by key false other = holds_for_other_keys keying keys key trace j rule sliced other

rule_in_trace : (keying : Keying) (sets : ℕ → Value → Bool) (trace : List Step) (rule : Formula) → IsSlicedRule keying rule → CoverAllKeys sets
    → ((c : ℕ) (j : ℕ) → j < length (slice_of keying (sets c) trace) → Sat (slice_of keying (sets c) trace) j no_values rule)
    → (i : ℕ) → i < length trace → Sat trace i no_values rule
rule_in_trace keying sets trace rule sliced cover holds i below =
    (holds_by_keys keying trace i rule sliced).1 (λ key. by key (cover key).0 (cover key).1)
  where
    by : (key : Value) (c : ℕ) → sets c key ≡ true → HoldsForKey keying key trace i rule
    by key c among =
        ⊎_elim
        (λ found. subst (λ k. HoldsForKey keying key trace k rule) found.2
        ((truth_stays keying (sets c) key trace found.0 rule sliced among found.1).1
        ((holds_by_keys keying (slice_of keying (sets c) trace) found.0 rule sliced).0 (holds c found.0 found.1) key)))
        (λ out. holds_where_left_out keying (sets c) key trace i rule sliced among out)
        (origin_covers keying (sets c) trace i below)

pub satisfies_in_slice : (keying : Keying) (keys : Value → Bool) (trace : List Step) (policy : List Formula) → IsSlicedPolicy keying policy
    → Satisfies trace policy → Satisfies (slice_of keying keys trace) policy
satisfies_in_slice keying keys trace policy sliced holds k d below =
    rule_in_slice keying keys trace _ (sliced k d below) (holds k d below)

satisfies_in_trace : (keying : Keying) (sets : ℕ → Value → Bool) (trace : List Step) (policy : List Formula) → IsSlicedPolicy keying policy
    → CoverAllKeys sets → ((c : ℕ) → Satisfies (slice_of keying (sets c) trace) policy) → Satisfies trace policy
satisfies_in_trace keying sets trace policy sliced cover holds k d below =
    rule_in_trace keying sets trace _ (sliced k d below) cover (λ c. holds c k d below)

pub slices_decide : SlicesDecide
slices_decide keying sets trace policy sliced cover = (
  satisfies_in_trace keying sets trace policy sliced cover,
  λ holds c. satisfies_in_slice keying (sets c) trace policy sliced holds,
)

pub merges_satisfy : MergesSatisfy
merges_satisfy keying sets trace parts policy sliced cover holds merged =
    satisfies_in_trace keying sets trace policy sliced cover
    (λ c. subst (λ (slice : List Step). Satisfies slice policy) (sym (merged c)) (satisfies_in_slice keying (sets c) (parts c) policy sliced (holds c)))

pub slices_are_good : SlicesAreGood
slices_are_good keying keys trace clock policy sliced good =
    let c = good.1 in (
      slice_of keying keys good.0,
      record {
        more = slice_of keying keys c.more;
        begins = ap (slice_of keying keys) c.begins ∙ slice-append keying keys trace c.more;
        later = slice_later keying keys clock c.more c.later;
        is_trace = slices_are_traces keying keys good.0 c.is_trace;
      },
      satisfies_in_slice keying keys good.0 policy sliced good.2,
    )
