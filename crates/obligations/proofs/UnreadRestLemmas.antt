-- What missed something misses the rest of it after an action on a name that it does not read.
use Rattle.obligations.proofs.Vocabulary.{◌≡◌, ◌⊎◌, ◌∙◌, ◌↔◌, ℕ, zero, suc, List, [], ◌∷◌, ◌++◌, Option, None, Some, refl, sym, subst, inl, inr, ⊎_elim, AllByRecursion, step_at, Valuation}
use Rattle.obligations.proofs.Vocabulary.{values_of_terms, with_values, Event, NameId, Step, VarId, Value, Formula, NamesDecide, nodes, Plan, CausePlan, SuppressPlan, Both, Either, TestOr, Guarded}
use Rattle.obligations.proofs.Vocabulary.{EventuallyPlan, AlwaysPlan, UntilPlan, NextPlan, IsAbsent, IsPresent, LiteralUnless, Missing, OfEvent, cause_literal, suppress_literal, Gathers, HoldsLast}
use Rattle.obligations.proofs.Vocabulary.{last_position, AreThoseWith, DiffersIn, Ignores, IsStillWanted, IsPlain, LeavesRest, LeavesRestIn, UnreadLeavesRest, Literal, LiteralKind}
use Rattle.obligations.proofs.ExistenceLemmas.{present_or_not}
use Rattle.obligations.proofs.OwnRowLemmas.{no_more, own_leaves_rest, those_both}
use Rattle.obligations.proofs.SoundnessLemmas.{all_left, all_right}
use Rattle.obligations.proofs.UnreadNameLemmas.{absent_stays, at_last, from_last, present_stays, same_holds}

module _ {X : Type 0} (P Q : X → List Literal → Type 0) (W : Literal → Type 0) where
  gathered_left : (xs : List X) (ls : List Literal)
      → ((x : X) (ys : List Literal) → P x ys → (left : List Literal) × AreThoseWith W ys left × Q x left)
      → Gathers P xs ls → (left : List Literal) × AreThoseWith W ls left × Gathers Q xs left
  gathered_left [] ls each none = ([], no_more W ls none, refl)
  gathered_left (x ∷ xs) ls each (one, rest, is, others, are) =
      let first = each x one is in
      let more = gathered_left xs rest each others in (
        first.0 ++ more.0,
        subst (λ l. AreThoseWith W l (first.0 ++ more.0)) (sym are) (those_both W one rest first.0 more.0 first.1 more.1),
        (first.0, more.0, first.2, more.2, refl),
      )

-- what a leaf missed, of which it is known whether it is wanted still
leaf_left : (P Q : Type 0) (l : Literal) (W : Literal → Type 0) (ls : List Literal) → (P → Q) → (Q → W l → ⊥) → ((Q → ⊥) → W l)
    → Q ⊎ (Q → ⊥) → LiteralUnless P l ls → (left : List Literal) × AreThoseWith W ls left × LiteralUnless Q l left
leaf_left P Q l W ls turn met wants now missing =
    ⊎_elim
    (λ was. ([], no_more W ls was.1, inl (turn was.0, refl)))
    (λ lacked. ⊎_elim
    (λ is. ([], subst (λ k. AreThoseWith W k []) (sym lacked.1) (inr (met is, refl)), inl (is, refl)))
    (λ not. (l ∷ [], subst (λ k. AreThoseWith W k (l ∷ [])) (sym lacked.1) (inl (wants not, [], refl, refl)), inr (not, refl)))
    now)
    missing

event_left : (n : NameId) (o : Option (List Value)) (P Q : Event → Type 0) (l : Event → Literal) (W : Literal → Type 0) (ls : List Literal)
    → ((e : Event) → e.name ≡ n → LiteralUnless (P e) (l e) ls → (left : List Literal) × AreThoseWith W ls left × LiteralUnless (Q e) (l e) left)
    → OfEvent n o (λ e. LiteralUnless (P e) (l e) ls)
    → (left : List Literal) × AreThoseWith W ls left × OfEvent n o (λ e. LiteralUnless (Q e) (l e) left)
event_left n None P Q l W ls turn missing = absurd missing
event_left n (Some args) P Q l W ls turn missing = turn (record { name = n; args = args }) refl missing

module _ (names : NamesDecide) (k : LiteralKind) (name : NameId) (trace other : List Step) (differs : DiffersIn k name trace other) where
  abbrev Left : Plan → Valuation → List Literal → Type 0
  Left plan v ls = (left : List Literal) × AreThoseWith (IsStillWanted other) ls left × Missing other plan v left

  holds_as_before : (f : Formula) → Ignores name f → (v : Valuation) → HoldsLast trace v f ↔ HoldsLast other v f
  holds_as_before f ignores v = same_holds k name trace other differs names f ignores v

  there_or_not : (e : Event) → IsPresent other e ⊎ (IsPresent other e → ⊥)
  there_or_not e = present_or_not (step_at other (last_position other)).events e

  -- under the same rows
  by_rows : (node : ℕ) (xs : List VarId) (guard : ℕ) (test : Formula) (body : Plan) → Ignores name test → (v : Valuation) (ls : List Literal)
      → ((row : List Value) (ys : List Literal) → Missing trace body (with_values xs row v) ys → Left body (with_values xs row v) ys)
      → Missing trace (Guarded node xs guard test body) v ls → Left (Guarded node xs guard test body) v ls
  by_rows node xs guard test body ignores v ls each (rows, are, gathered) =
      let more = gathered_left (λ row. Missing trace body (with_values xs row v)) (λ row. Missing other body (with_values xs row v)) (IsStillWanted other) rows ls
      each gathered
      in (
        more.0,
        more.1,
        (
          rows,
          record {
            fit = are.fit;
            rise = are.rise;
            are = λ row long. (
              (λ there. (holds_as_before test ignores (with_values xs row v)).0 ((are.are row long).0 there)),
              (λ holds. (are.are row long).1 ((holds_as_before test ignores (with_values xs row v)).1 holds)),
            );
          },
          more.2,
        ),
      )

  rest : (plan : Plan) → LeavesRestIn k name plan → AllByRecursion IsPlain (nodes plan) → (v : Valuation) (ls : List Literal)
      → Missing trace plan v ls → Left plan v ls
  rest (CausePlan node place n terms) leaves plain v ls missing =
      event_left n (values_of_terms v terms) (IsPresent trace) (IsPresent other) (λ e. cause_literal e node) (IsStillWanted other) ls
      (λ e is of. leaf_left (IsPresent trace e) (IsPresent other e) (cause_literal e node) (IsStillWanted other) ls
      (λ there. at_last k name trace other differs e (present_stays k name trace other differs (last_position trace) e (λ s named. leaves.0 s (sym is ∙ named)) there))
      (λ there absent. absent there) (λ absent. absent) (there_or_not e) of) missing
  rest (SuppressPlan node place n terms) leaves plain v ls missing =
      event_left n (values_of_terms v terms) (IsAbsent trace) (IsAbsent other) (λ e. suppress_literal e node) (IsStillWanted other) ls
      (λ e is of. leaf_left (IsAbsent trace e) (IsAbsent other e) (suppress_literal e node) (IsStillWanted other) ls
      (λ absent there. absent (absent_stays k name trace other differs (last_position trace) e (λ s named. leaves.0 s (sym is ∙ named)) (from_last k name trace other differs e there)))
      (λ absent there. absent there)
      (λ not. ⊎_elim (λ there. there) (λ absent. absurd (not absent)) (there_or_not e))
      (⊎_elim (λ there. inr (λ absent. absent there)) (λ absent. inl absent) (there_or_not e)) of) missing
  rest (Both node left right) leaves plain v ls (first, more, on_left, on_right, are) =
      let one = rest left (all_left (LeavesRest k name) (nodes left) (nodes right) leaves.1) (all_left IsPlain (nodes left) (nodes right) plain.1) v first on_left in
      let two = rest right (all_right (LeavesRest k name) (nodes left) (nodes right) leaves.1) (all_right IsPlain (nodes left) (nodes right) plain.1) v more on_right in (
        one.0 ++ two.0,
        subst (λ l. AreThoseWith (IsStillWanted other) l (one.0 ++ two.0)) (sym are) (those_both (IsStillWanted other) first more one.0 two.0 one.1 two.1),
        (one.0, two.0, one.2, two.2, refl),
      )
  rest (Either node left right) leaves plain v ls missing = absurd plain.0
  rest (TestOr node guard test body) leaves plain v ls missing =
      ⊎_elim
      (λ met. ([], no_more (IsStillWanted other) ls met.1, inl ((holds_as_before test leaves.0 v).0 met.0, refl)))
      (λ fails. let more = rest body leaves.1 plain.1 v ls fails.1 in
      (more.0, more.1, inr ((λ holds. fails.0 ((holds_as_before test leaves.0 v).1 holds)), more.2)))
      missing
  rest (Guarded node xs guard test body) leaves plain v ls missing =
      ⊎_elim
      (λ ignores. by_rows node xs guard test body ignores v ls (λ row ys. rest body leaves.1 plain.1 (with_values xs row v) ys) missing)
      (λ own. own_leaves_rest names name trace other (subst (λ (l : LiteralKind). DiffersIn l name trace other) own.0 differs) node xs guard test body v ls own.1 missing)
      leaves.0
  rest (EventuallyPlan node place low high body) leaves plain v ls none = ([], no_more (IsStillWanted other) ls none, refl)
  rest (AlwaysPlan node place zero high body) leaves plain v ls missing = rest body leaves.1 plain.1 v ls missing
  rest (AlwaysPlan node place (suc low) high body) leaves plain v ls none = ([], no_more (IsStillWanted other) ls none, refl)
  rest (UntilPlan node place low high left right) leaves plain v ls missing = absurd plain.0
  rest (NextPlan node place high body) leaves plain v ls none = ([], no_more (IsStillWanted other) ls none, refl)

pub unread_leaves_rest : NamesDecide → UnreadLeavesRest
unread_leaves_rest names k name trace other plan v ls differs leaves plain missing =
    rest names k name trace other differs plan leaves plain v ls missing
