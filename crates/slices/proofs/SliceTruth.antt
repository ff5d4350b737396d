-- A formula of one key has the same truth in the trace and in each slice for keys with this one.
use Rattle.slices.proofs.Vocabulary.{◌≡◌, ◌↔◌, ⊎_elim, ℕ, ◌-◌, ◌<◌, ◌≤◌, Bool, true, List, length, Option, None, Some, refl, sym, ap, subst, arith, ◌∙◌, Event, NameId, Interval, Step}
use Rattle.slices.proofs.Vocabulary.{Term, VarId, Value, step_at, IsIn, Valuation, value_at, values_of_terms, with_values, Formula, HeldSince, HoldsAnywhere, HoldsUntil, IsEventAmong, elapsed, value_at-with_outside}
use Rattle.slices.proofs.Vocabulary.{Sat, True, False, Atom, Equal, Less, AtMost, Not, And, Or, Implies, Exists, Forall, Prev, Next, Once, Historically, Since, Eventually, Always, Until, Fails, Holds}
use Rattle.slices.proofs.Vocabulary.{HasKeyTerm, IsOfOneKey, IsLeftOut, Keying, cut_events, event_key, has_key, origin, slice_of, Contains-filter, Contains-from_filter, verdict_of, AtStep}
use Rattle.slices.proofs.KeyedEvents.{atom_is_kept}
use Rattle.slices.proofs.SlicePlaces.{events_from, origin_below, origin_covers, origin_keeps, origin_rises, place_before, place_upto, time_from}
use Rattle.slices.proofs.VerdictLemmas.{Says, says_left}

-- a formula that holds where a step is left out
abbrev pub SaysThere : Keying → (Value → Bool) → List Step → (ℕ → Type 0) → Type 0
SaysThere keying keys trace F = (i : ℕ) → i < length trace → IsLeftOut keying keys (step_at trace i) → F i

-- truth at the steps of the slice is that at the steps from which they come
abbrev pub AreSame : Keying → (Value → Bool) → List Step → (ℕ → Type 0) → (ℕ → Type 0) → Type 0
AreSame keying keys trace F G = (j : ℕ) → j < length (slice_of keying keys trace) → F (origin keying keys trace j) ↔ G j

module _ (keying : Keying) (keys : Value → Bool) (trace : List Step) where
  anywhere : AreSame keying keys trace HoldsAnywhere HoldsAnywhere
  anywhere j below = (λ h. h, λ h. h)

  elapsed_from : (j k : ℕ) → elapsed trace (origin keying keys trace j) (origin keying keys trace k)
      ≡ elapsed (slice_of keying keys trace) j k
  elapsed_from j k = λ n. sym (time_from keying keys trace k) n - sym (time_from keying keys trace j) n

  module _ (interval : Interval) (F G F' G' : ℕ → Type 0) (left : AreSame keying keys trace F F') (right : AreSame keying keys trace G G')
      (holds : SaysThere keying keys trace F) (fails : SaysThere keying keys trace (λ i. G i → ⊥)) (j : ℕ)
      (below : j < length (slice_of keying keys trace)) where
    since_in_slice : HeldSince trace (origin keying keys trace j) interval F G → HeldSince (slice_of keying keys trace) j interval F' G'
    since_in_slice held none = held (λ some.
        ⊎_elim
        (λ found.
        let m = found.0 in
        let from : origin keying keys trace m ≤ origin keying keys trace j = omega (arith, found.2, some.1) in
        let upto : m ≤ j = place_upto keying keys trace m j from in
        none (
          m,
          upto,
          subst (IsIn interval) (ap (λ i. elapsed trace i (origin keying keys trace j)) (sym found.2) ∙ elapsed_from m j) some.2,
          (right m found.1).0 (subst G (sym found.2) some.3),
          λ k after to.
              let rises : origin keying keys trace m < origin keying keys trace k = origin_rises keying keys trace m k after in
              let keeps : origin keying keys trace k ≤ origin keying keys trace j = origin_keeps keying keys trace k j to in
              (left k (omega arith)).0 (some.4 (origin keying keys trace k) (omega (arith, found.2)) keeps),
        ))
        (λ out. fails some.0 (let at : origin keying keys trace j < length trace = origin_below keying keys trace j below in omega (arith, some.1)) out some.3)
        (origin_covers keying keys trace some.0 (let at : origin keying keys trace j < length trace = origin_below keying keys trace j below in omega (arith, some.1))))

    since_in_trace : HeldSince (slice_of keying keys trace) j interval F' G' → HeldSince trace (origin keying keys trace j) interval F G
    since_in_trace held none = held (λ some.
        let m = some.0 in
        let at : origin keying keys trace j < length trace = origin_below keying keys trace j below in
        none (
          origin keying keys trace m,
          origin_keeps keying keys trace m j some.1,
          subst (IsIn interval) (sym (elapsed_from m j)) some.2,
          (right m (omega (arith, some.1))).1 some.3,
          λ k after to. ⊎_elim
              (λ found.
              let later : m < found.0 = place_before keying keys trace m found.0 (omega (arith, found.2)) in
              let upto : found.0 ≤ j = place_upto keying keys trace found.0 j (omega (arith, found.2)) in
              subst F found.2 ((left found.0 found.1).1 (some.4 found.0 later upto)))
              (λ out. holds k (omega arith) out)
              (origin_covers keying keys trace k (omega arith)),
        ))

    until_in_slice : HoldsUntil trace (origin keying keys trace j) interval F G → HoldsUntil (slice_of keying keys trace) j interval F' G'
    until_in_slice held none = held (λ some.
        ⊎_elim
        (λ found.
        let m = found.0 in
        let upto : j ≤ m = place_upto keying keys trace j m (omega (arith, found.2, some.1)) in
        none (
          m,
          upto,
          found.1,
          subst (IsIn interval) (ap (λ i. elapsed trace (origin keying keys trace j) i) (sym found.2) ∙ elapsed_from j m) some.3,
          (right m found.1).0 (subst G (sym found.2) some.4),
          λ k from before.
              let rises : origin keying keys trace k < origin keying keys trace m = origin_rises keying keys trace k m before in
              let keeps : origin keying keys trace j ≤ origin keying keys trace k = origin_keeps keying keys trace j k from in
              let there : k < length (slice_of keying keys trace) = omega (arith, found.1) in
              (left k there).0 (some.5 (origin keying keys trace k) keeps (omega (arith, found.2))),
        ))
        (λ out. fails some.0 some.2 out some.4)
        (origin_covers keying keys trace some.0 some.2))

    until_in_trace : HoldsUntil (slice_of keying keys trace) j interval F' G' → HoldsUntil trace (origin keying keys trace j) interval F G
    until_in_trace held none = held (λ some.
        let m = some.0 in
        let at : origin keying keys trace m < length trace = origin_below keying keys trace m some.2 in
        none (
          origin keying keys trace m,
          origin_keeps keying keys trace j m some.1,
          at,
          subst (IsIn interval) (sym (elapsed_from j m)) some.3,
          (right m some.2).1 some.4,
          λ k from before. ⊎_elim
              (λ found.
              let upto : j ≤ found.0 = place_upto keying keys trace j found.0 (omega (arith, found.2)) in
              let earlier : found.0 < m = place_before keying keys trace found.0 m (omega (arith, found.2)) in
              subst F found.2 ((left found.0 found.1).1 (some.5 found.0 upto earlier)))
              (λ out. holds k (omega arith) out)
              (origin_covers keying keys trace k (omega arith)),
        ))

    pub since_same : HeldSince trace (origin keying keys trace j) interval F G ↔ HeldSince (slice_of keying keys trace) j interval F' G'
    since_same = (since_in_slice, since_in_trace)

    pub until_same : HoldsUntil trace (origin keying keys trace j) interval F G ↔ HoldsUntil (slice_of keying keys trace) j interval F' G'
    until_same = (until_in_slice, until_in_trace)

-- what two statements of the same truth deny
denials : (P Q : Type 0) → P ↔ Q → (P → ⊥) ↔ (Q → ⊥)
denials P Q same = (λ fails holds. fails (same.1 holds), λ fails holds. fails (same.0 holds))

module _ (keying : Keying) (keys : Value → Bool) (x : VarId) (key : Value) (among : keys key ≡ true) (trace : List Step) where
  atom_same : (events : List Event) (name : NameId) (terms : List Term) (v : Valuation) → value_at v x ≡ Some key
      → HasKeyTerm (keying name) terms x → (args : Option (List Value)) → values_of_terms v terms ≡ args
      → IsEventAmong events name args ↔ IsEventAmong (cut_events keying keys events) name args
  atom_same events name terms v is one None values = (λ there. there, λ there. there)
  atom_same events name terms v is one (Some args) values =
      let event : Event = record { name = name; args = args } in
      let test = λ (e : Event). has_key keys (event_key keying e) in (
        λ there. Contains-filter test events event there (atom_is_kept keys v terms args x key among values is (keying name) one),
        λ there. (Contains-from_filter test events event there).0,
      )

  holds_there : (f : Formula) (v : Valuation) → value_at v x ≡ Some key → IsOfOneKey keying x f → verdict_of AtStep keying f ≡ Holds
      → SaysThere keying keys trace (λ i. Sat trace i v f)
  holds_there f v is one clear i below out =
      subst (λ d. Says d (Sat trace i v f)) clear (says_left keying keys x key among trace f one i out v is)

  fails_there : (f : Formula) (v : Valuation) → value_at v x ≡ Some key → IsOfOneKey keying x f → verdict_of AtStep keying f ≡ Fails
      → SaysThere keying keys trace (λ i. Sat trace i v f → ⊥)
  fails_there f v is one clear i below out =
      subst (λ d. Says d (Sat trace i v f)) clear (says_left keying keys x key among trace f one i out v is)

  not_denied : (f : Formula) (v : Valuation) → value_at v x ≡ Some key → IsOfOneKey keying x f → verdict_of AtStep keying f ≡ Holds
      → SaysThere keying keys trace (λ i. (Sat trace i v f → ⊥) → ⊥)
  not_denied f v is one clear i below out = λ fails. fails (holds_there f v is one clear i below out)

  nowhere_wrong : SaysThere keying keys trace HoldsAnywhere
  nowhere_wrong i below out = tt

  pub same : (f : Formula) → IsOfOneKey keying x f → (v : Valuation) → value_at v x ≡ Some key
      → AreSame keying keys trace (λ i. Sat trace i v f) (λ j. Sat (slice_of keying keys trace) j v f)
  same (True place) one v is j below = (λ h. h, λ h. h)
  same (False place) one v is j below = (λ h. h, λ h. h)
  same (Atom place name terms) one v is j below =
      subst (λ (events : List Event). IsEventAmong (step_at trace (origin keying keys trace j)).events name (values_of_terms v terms)
      ↔ IsEventAmong events name (values_of_terms v terms)) (sym (events_from keying keys trace j))
      (atom_same (step_at trace (origin keying keys trace j)).events name terms v is one (values_of_terms v terms) refl)
  same (Equal place s t) one v is j below = (λ h. h, λ h. h)
  same (Less place s t) one v is j below = (λ h. h, λ h. h)
  same (AtMost place s t) one v is j below = (λ h. h, λ h. h)
  same (Not place f) one v is j below =
      denials (Sat trace (origin keying keys trace j) v f) (Sat (slice_of keying keys trace) j v f) (same f one v is j below)
  same (And place f g) one v is j below =
      let left = same f one.0 v is j below in
      let right = same g one.1 v is j below in
      (λ both. (left.0 both.0, right.0 both.1), λ both. (left.1 both.0, right.1 both.1))
  same (Or place f g) one v is j below =
      let left = same f one.0 v is j below in
      let right = same g one.1 v is j below in (
        λ either p q. either (λ holds. p (left.0 holds)) (λ holds. q (right.0 holds)),
        λ either p q. either (λ holds. p (left.1 holds)) (λ holds. q (right.1 holds)),
      )
  same (Implies place f g) one v is j below =
      let left = same f one.0 v is j below in
      let right = same g one.1 v is j below in
      (λ implies holds. right.0 (implies (left.1 holds)), λ implies holds. right.1 (implies (left.0 holds)))
  same (Exists place xs f) one v is j below =
      let under = λ (values : List Value). same f one.1 (with_values xs values v) (value_at-with_outside xs values v x one.0 ∙ is) j below in (
        λ some none. some (λ found. none (found.0, found.1, (under found.0).0 found.2)),
        λ some none. some (λ found. none (found.0, found.1, (under found.0).1 found.2)),
      )
  same (Forall place xs f) one v is j below =
      let under = λ (values : List Value). same f one.1 (with_values xs values v) (value_at-with_outside xs values v x one.0 ∙ is) j below in (
        λ each values long. (under values).0 (each values long),
        λ each values long. (under values).1 (each values long),
      )
  same (Prev place interval f) one v is j below = absurd one
  same (Next place interval f) one v is j below = absurd one
  same (Once place interval f) one v is j below =
      since_same keying keys trace interval HoldsAnywhere (λ i. Sat trace i v f) HoldsAnywhere (λ k. Sat (slice_of keying keys trace) k v f)
      (anywhere keying keys trace) (same f one.1 v is) nowhere_wrong (fails_there f v is one.1 one.0) j below
  same (Historically place interval f) one v is j below =
      let Denied : ℕ → Type 0 = λ i. Sat trace i v f → ⊥ in
      let Denied' : ℕ → Type 0 = λ k. Sat (slice_of keying keys trace) k v f → ⊥ in
      denials (HeldSince trace (origin keying keys trace j) interval HoldsAnywhere Denied) (HeldSince (slice_of keying keys trace) j interval HoldsAnywhere Denied')
      (since_same keying keys trace interval HoldsAnywhere Denied HoldsAnywhere Denied' (anywhere keying keys trace)
      (λ k there. denials (Sat trace (origin keying keys trace k) v f) (Sat (slice_of keying keys trace) k v f) (same f one.1 v is k there))
      nowhere_wrong (not_denied f v is one.1 one.0) j below)
  same (Since place interval f g) one v is j below =
      since_same keying keys trace interval (λ i. Sat trace i v f) (λ i. Sat trace i v g) (λ k. Sat (slice_of keying keys trace) k v f)
      (λ k. Sat (slice_of keying keys trace) k v g) (same f one.0.1 v is) (same g one.1.1 v is) (holds_there f v is one.0.1 one.0.0)
      (fails_there g v is one.1.1 one.1.0) j below
  same (Eventually place interval f) one v is j below =
      until_same keying keys trace interval HoldsAnywhere (λ i. Sat trace i v f) HoldsAnywhere (λ k. Sat (slice_of keying keys trace) k v f)
      (anywhere keying keys trace) (same f one.1 v is) nowhere_wrong (fails_there f v is one.1 one.0) j below
  same (Always place interval f) one v is j below =
      let Denied : ℕ → Type 0 = λ i. Sat trace i v f → ⊥ in
      let Denied' : ℕ → Type 0 = λ k. Sat (slice_of keying keys trace) k v f → ⊥ in
      denials (HoldsUntil trace (origin keying keys trace j) interval HoldsAnywhere Denied) (HoldsUntil (slice_of keying keys trace) j interval HoldsAnywhere Denied')
      (until_same keying keys trace interval HoldsAnywhere Denied HoldsAnywhere Denied' (anywhere keying keys trace)
      (λ k there. denials (Sat trace (origin keying keys trace k) v f) (Sat (slice_of keying keys trace) k v f) (same f one.1 v is k there))
      nowhere_wrong (not_denied f v is one.1 one.0) j below)
  same (Until place interval f g) one v is j below =
      until_same keying keys trace interval (λ i. Sat trace i v f) (λ i. Sat trace i v g) (λ k. Sat (slice_of keying keys trace) k v f)
      (λ k. Sat (slice_of keying keys trace) k v g) (same f one.0.1 v is) (same g one.1.1 v is) (holds_there f v is one.0.1 one.0.0)
      (fails_there g v is one.1.1 one.1.0) j below
