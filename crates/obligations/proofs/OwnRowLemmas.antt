-- What is left, after events of a name went, of what a plan suppresses for which just its guard holds.
use Rattle.obligations.proofs.Vocabulary.{◌≡◌, ◌↔◌, ◌∙◌, ℕ, Bool, true, false, cond, List, [], ◌∷◌, ◌++◌, length, Option, None, Some, refl, sym, ap, subst, inl, inr, ⊎_elim, true≢false, false≢true}
use Rattle.obligations.proofs.Vocabulary.{Decides, step_at, Valuation, values_of_terms, with_values, Event, NameId, Step, Term, VarId, Value, Formula, And, Atom, IsEventAmong, Sat, NamesDecide}
use Rattle.obligations.proofs.Vocabulary.{row_cmp, Plan, SuppressPlan, TestOr, Guarded, IsAbsent, IsPresent, LiteralUnless, Missing, OfEvent, suppress_literal, AreGuardRows, Gathers, HoldsLast}
use Rattle.obligations.proofs.Vocabulary.{last_events, last_position, AreThoseWith, DiffersIn, IsStillWanted, Literal, AnswersOwn, SuppressesOwn, SuppressesWith}
use Rattle.std.specs.List.{filter}
use Rattle.std.proofs.lemmas.List.Elements.{All-filter}
use Rattle.std.proofs.lemmas.List.Kept.{IsStrictlySortedBy-filter}
use Rattle.enf_data.proofs.Lists.{Contains-filter, Contains-from_filter}
use Rattle.enf_data.proofs.ValueEquality.{has_event-Decides}
use Rattle.enf_data.specs.meaning.Values.{has_event}
use Rattle.obligations.proofs.UnreadNameLemmas.{from_last, same_holds, same_last, same_named}
use Rattle.obligations.specs.declared.literals.LiteralKind.TheVariants as kind

-- ---- what is left of what was missed

pub no_more : (W : Literal → Type 0) (ls : List Literal) → ls ≡ [] → AreThoseWith W ls []
no_more W ls none = subst (λ l. AreThoseWith W l []) (sym none) refl

pub those_both : (W : Literal → Type 0) (xs ys ms ns : List Literal) → AreThoseWith W xs ms → AreThoseWith W ys ns
    → AreThoseWith W (xs ++ ys) (ms ++ ns)
those_both W [] ys ms ns none others = subst (λ l. AreThoseWith W ys (l ++ ns)) (sym none) others
those_both W (x ∷ xs) ys ms ns those others =
    ⊎_elim
    (λ has. inl (has.0, has.1 ++ ns, those_both W xs ys has.1 ns has.2 others, ap (λ l. l ++ ns) has.3))
    (λ lacks. inr (lacks.0, those_both W xs ys ms ns lacks.1 others))
    those

-- ---- an event of the name with some arguments

abbrev pub is_among : List Event → NameId → Option (List Value) → Bool
is_among events name None = false
is_among events name (Some args) = has_event events (record { name = name; args = args })

pub among_Decides : (events : List Event) (name : NameId) (args : Option (List Value))
    → Decides (is_among events name args) (IsEventAmong events name args)
among_Decides events name None = (λ t. absurd (false≢true t), λ none. absurd none)
among_Decides events name (Some args) = has_event-Decides events (record { name = name; args = args })

-- ---- what is gathered under the rows that a test keeps

module _ {X : Type 0} (P Q : X → List Literal → Type 0) (W : Literal → Type 0) (keeps : X → Bool)
    (kept : (x : X) (ys : List Literal) → P x ys → keeps x ≡ true → (left : List Literal) × AreThoseWith W ys left × Q x left)
    (gone : (x : X) (ys : List Literal) → P x ys → keeps x ≡ false → AreThoseWith W ys []) where
  gathered_kept : (xs : List X) (ls : List Literal) → Gathers P xs ls
      → (left : List Literal) × AreThoseWith W ls left × Gathers Q (filter keeps xs) left
  gathered_kept [] ls none = ([], no_more W ls none, refl)
  gathered_kept (x ∷ xs) ls (one, rest, is, others, are) = by (keeps x) refl (gathered_kept xs rest others)
    where
      by : (b : Bool) → keeps x ≡ b → (left : List Literal) × AreThoseWith W rest left × Gathers Q (filter keeps xs) left
          → (left : List Literal) × AreThoseWith W ls left × Gathers Q (cond b (x ∷ filter keeps xs) (filter keeps xs)) left
      by true e more =
          let first = kept x one is e in (
            first.0 ++ more.0,
            subst (λ l. AreThoseWith W l (first.0 ++ more.0)) (sym are) (those_both W one rest first.0 more.0 first.1 more.1),
            (first.0, more.0, first.2, more.2, refl),
          )
      by false e more = (more.0, subst (λ l. AreThoseWith W l more.0) (sym are) (those_both W one rest [] more.0 (gone x one is e) more.1), more.2)

module _ (names : NamesDecide) (name : NameId) (trace other : List Step) (differs : DiffersIn kind.Suppress name trace other) where
  -- ---- formulas

  atom_grown : (i : ℕ) (n : NameId) (args : Option (List Value)) → IsEventAmong (step_at other i).events n args
      → IsEventAmong (step_at trace i).events n args
  atom_grown i n None there = there
  atom_grown i n (Some args) there = differs.more i (record { name = n; args = args }) there

  -- a conjunction with its own atom holds on the other trace just where it holds and the event is left
  abbrev IsLeft : (i : ℕ) → List Term → Valuation → Type 0
  IsLeft i terms v = IsEventAmong (step_at other i).events name (values_of_terms v terms)

  own_holds : (i : ℕ) (terms : List Term) (f : Formula) → AnswersOwn name terms f → (v : Valuation)
      → Sat other i v f ↔ (Sat trace i v f × IsLeft i terms v)
  own_holds i terms (Atom place n own) is v = (
    λ there. (
      atom_grown i n (values_of_terms v own) there,
      subst (λ ts. IsEventAmong (step_at other i).events name (values_of_terms v ts)) is.1
          (subst (λ m. IsEventAmong (step_at other i).events m (values_of_terms v own)) is.0 there),
    ),
    λ both. subst (λ m. IsEventAmong (step_at other i).events m (values_of_terms v own)) (sym is.0)
        (subst (λ ts. IsEventAmong (step_at other i).events name (values_of_terms v ts)) (sym is.1) both.1),
  )
  own_holds i terms (And place g h) is v =
      ⊎_elim
      (λ first.
      let on_g = own_holds i terms g first.0 v in
      let on_h = names trace other i v h (same_named kind.Suppress name trace other differs h first.1) in (
        λ holds. (
          (
            (on_g.0 holds.0).0,
            on_h.1 holds.1,
          ),
          (on_g.0 holds.0).1,
        ),
        λ both. (on_g.1 (both.0.0, both.1), on_h.0 both.0.1),
      ))
      (λ second.
      let on_g = names trace other i v g (same_named kind.Suppress name trace other differs g second.0) in
      let on_h = own_holds i terms h second.1 v in (
        λ holds. (
          (
            on_g.1 holds.0,
            (on_h.0 holds.1).0,
          ),
          (on_h.0 holds.1).1,
        ),
        λ both. (on_g.0 both.0.0, on_h.1 (both.0.1, both.1)),
      ))
      is
  own_holds i terms f is v = absurd is

  -- ---- the last step

  is_last : last_position trace ≡ last_position other
  is_last = same_last kind.Suppress name trace other differs

  in_trace : (e : Event) → IsPresent other e → IsPresent trace e
  in_trace e there = differs.more (last_position trace) e (from_last kind.Suppress name trace other differs e there)

  -- ---- what is left of what a plan suppresses for the rows of its guard

  abbrev Wanted : Literal → Type 0
  Wanted = IsStillWanted other

  abbrev Leaves : Plan → Valuation → List Literal → Type 0
  Leaves plan v ls = (left : List Literal) × AreThoseWith Wanted ls left × Missing other plan v left

  abbrev Suppressed : List Step → (node : ℕ) → NameId → Option (List Value) → List Literal → Type 0
  Suppressed steps node n args ls = OfEvent n args (λ e. LiteralUnless (IsAbsent steps e) (suppress_literal e node) ls)

  leaf_kept : (node : ℕ) (n : NameId) (args : Option (List Value)) (ls : List Literal) → Suppressed trace node n args ls
      → IsEventAmong (last_events other) n args
      → (left : List Literal) × AreThoseWith Wanted ls left × Suppressed other node n args left
  leaf_kept node n None ls missing there = absurd missing
  leaf_kept node n (Some args) ls missing there = of_event (record { name = n; args = args }) missing there
    where
      of_event : (e : Event) → LiteralUnless (IsAbsent trace e) (suppress_literal e node) ls → IsPresent other e
          → (left : List Literal) × AreThoseWith Wanted ls left × LiteralUnless (IsAbsent other e) (suppress_literal e node) left
      of_event e misses present =
          ⊎_elim
          (λ absent. absurd (absent.0 (in_trace e present)))
          (λ lacked. (
            suppress_literal e node ∷ [],
            subst (λ l. AreThoseWith Wanted l (suppress_literal e node ∷ [])) (sym lacked.1) (inl (present, [], refl, refl)),
            inr (λ absent. absent present, refl),
          ))
          misses

  leaf_gone : (node : ℕ) (n : NameId) (args : Option (List Value)) (ls : List Literal) → Suppressed trace node n args ls
      → (IsEventAmong (last_events other) n args → ⊥) → AreThoseWith Wanted ls []
  leaf_gone node n None ls missing away = absurd missing
  leaf_gone node n (Some args) ls missing away =
      ⊎_elim
      (λ absent. no_more Wanted ls absent.1)
      (λ lacked. subst (λ l. AreThoseWith Wanted l []) (sym lacked.1) (inr (away, refl)))
      missing

  -- the leaf's own name and terms are those of the guard's atom
  abbrev IsThere : NameId → List Term → Valuation → Type 0
  IsThere n own v = IsEventAmong (last_events other) n (values_of_terms v own)

  turned : (n : NameId) (own terms : List Term) (v : Valuation) → n ≡ name → own ≡ terms → IsThere name terms v ↔ IsThere n own v
  turned n own terms v named same = (
    λ there. subst (λ m. IsThere m own v) (sym named) (subst (λ ts. IsThere name ts v) (sym same) there),
    λ there. subst (λ ts. IsThere name ts v) same (subst (λ m. IsThere m own v) named there),
  )

  body_kept : (terms : List Term) (body : Plan) → SuppressesWith name terms body → (v : Valuation) (ls : List Literal)
      → Missing trace body v ls → IsThere name terms v → Leaves body v ls
  body_kept terms (SuppressPlan node place n own) is v ls missing there =
      leaf_kept node n (values_of_terms v own) ls missing ((turned n own terms v is.0 is.1).0 there)
  body_kept terms (TestOr node guard test body) is v ls missing there =
      let same = same_holds kind.Suppress name trace other differs names test is.0 v in
      ⊎_elim
      (λ met. ([], no_more Wanted ls met.1, inl (same.0 met.0, refl)))
      (λ fails. let more = body_kept terms body is.1 v ls fails.1 there in
      (more.0, more.1, inr ((λ holds. fails.0 (same.1 holds)), more.2)))
      missing
  body_kept terms body is v ls missing there = absurd is

  body_gone : (terms : List Term) (body : Plan) → SuppressesWith name terms body → (v : Valuation) (ls : List Literal)
      → Missing trace body v ls → (IsThere name terms v → ⊥) → AreThoseWith Wanted ls []
  body_gone terms (SuppressPlan node place n own) is v ls missing away =
      leaf_gone node n (values_of_terms v own) ls missing (λ there. away ((turned n own terms v is.0 is.1).1 there))
  body_gone terms (TestOr node guard test body) is v ls missing away =
      ⊎_elim (λ met. no_more Wanted ls met.1) (λ fails. body_gone terms body is.1 v ls fails.1 away) missing
  body_gone terms body is v ls missing away = absurd is

  module _ (terms : List Term) (xs : List VarId) (test : Formula) (v : Valuation) where
    abbrev keeps : List Value → Bool
    keeps row = is_among (last_events other) name (values_of_terms (with_values xs row v) terms)

    decides : (row : List Value) → Decides (keeps row) (IsThere name terms (with_values xs row v))
    decides row = among_Decides (last_events other) name (values_of_terms (with_values xs row v) terms)

    own_last : AnswersOwn name terms test → (w : Valuation) → HoldsLast other w test ↔ (HoldsLast trace w test × IsThere name terms w)
    own_last is w =
        let both = own_holds (last_position other) terms test is w in (
          λ holds. (subst (λ n. Sat trace n w test) (sym is_last) (both.0 holds).0, (both.0 holds).1),
          λ held. both.1 (subst (λ n. Sat trace n w test) is_last held.0, held.1),
        )

    own_rows : AnswersOwn name terms test → (rows : List (List Value)) → AreGuardRows trace v xs test rows
        → AreGuardRows other v xs test (filter keeps rows)
    own_rows is rows are = record {
      fit = All-filter keeps (λ (row : List Value). length row ≡ length xs) rows are.fit;
      rise = IsStrictlySortedBy-filter row_cmp keeps rows are.rise;
      are = λ row long. (
        λ there.
            let kept = Contains-from_filter keeps rows row there in
            (own_last is (with_values xs row v)).1 ((are.are row long).0 kept.0, (decides row).0 kept.1),
        λ holds.
            let held = (own_last is (with_values xs row v)).0 holds in
            Contains-filter keeps rows row ((are.are row long).1 held.0) ((decides row).1 held.1),
      );
    }

    own_left : (node guard : ℕ) (body : Plan) (ls : List Literal) → AnswersOwn name terms test → SuppressesWith name terms body
        → Missing trace (Guarded node xs guard test body) v ls → Leaves (Guarded node xs guard test body) v ls
    own_left node guard body ls is suppresses (rows, are, gathered) =
        let more = gathered_kept (λ row. Missing trace body (with_values xs row v)) (λ row. Missing other body (with_values xs row v)) Wanted keeps
        (λ row ys missing kept. body_kept terms body suppresses (with_values xs row v) ys missing ((decides row).0 kept))
        (λ row ys missing gone. body_gone terms body suppresses (with_values xs row v) ys missing (λ there. true≢false (sym ((decides row).1 there) ∙ gone)))
        rows ls gathered in
        (more.0, more.1, (filter keeps rows, own_rows is rows are, more.2))

  -- what was missed and is still there
  pub own_leaves_rest : (node : ℕ) (xs : List VarId) (guard : ℕ) (test : Formula) (body : Plan) (v : Valuation) (ls : List Literal)
      → SuppressesOwn name test body → Missing trace (Guarded node xs guard test body) v ls → Leaves (Guarded node xs guard test body) v ls
  own_leaves_rest node xs guard test body v ls (terms, is, suppresses) missing = own_left terms xs test v node guard body ls is suppresses missing
