-- What instances become, one after another, and their deadlines.
use Rattle.obligations.proofs.Vocabulary.{◌≡◌, ◌⊎◌, ◌∙◌, Contains, inl, inr, ⊎_elim, ℕ, Bool, true, false, cond, List, [], ◌∷◌, ◌++◌, Option, Some, None, ap, refl, subst, sym, IfSome, AllByRecursion}
use Rattle.obligations.proofs.Vocabulary.{none-some, same_Some, AllByRecursion-contains, AllByRecursion-from_contains, Contains-append, first_or_later, none_in_nil, Step, GuardLooksBack, EndsInTime}
use Rattle.obligations.proofs.Vocabulary.{has_deadline, nodes, Plan, FoundIsFirst, IsNodeByNumber, StandsIn, AddsAsked, IsBegunHere, IsNowOf, guards_now, AreServed, BegunFor, IsInstanceServed}
use Rattle.obligations.proofs.Vocabulary.{WillBecome, is_forced, ComesOf, IsAskedPart, HasPart, After, AtNode, BecomesAt, node_of, PlansStand, CanAskOf, Instance, Now}
use Rattle.obligations.proofs.TraceLemmas.{stands_found}

-- what was put in an empty list can be asked
pub all_asked : (now : Now) (rule : ℕ) (plan : Plan) (P : List Step → List Instance → Type 0)
    (before after : List Instance) → before ≡ [] → AddsAsked now rule plan P before after → (plans : List Plan)
    → StandsIn plans rule plan → AllByRecursion (CanAskOf (guards_now now) plans) after
all_asked now rule plan P before after none added plans stands =
    subst (AllByRecursion (CanAskOf (guards_now now) plans))
    (sym (added.adds.grown ∙ ap (λ l. l ++ added.adds.more) none)) (added.asked plans stands)

pub all_begun : (now : Now) (rule : ℕ) (plan : Plan) (P : List Step → List Instance → Type 0)
    (before after : List Instance) → before ≡ [] → AddsAsked now rule plan P before after → (j : Instance) → Contains after j
    → IsBegunHere now rule plan j
all_begun now rule plan P before after none added j there =
    AllByRecursion-contains (IsBegunHere now rule plan) added.adds.more j added.begun
    (subst (λ l. Contains l j) (added.adds.grown ∙ ap (λ l. l ++ added.adds.more) none) there)

-- the node of an instance that can be asked
module _ (now : Now) (plans : List Plan) (inserted : Bool) (i : Instance) (can : CanAskOf (guards_now now) plans i)
    (node : Plan) (found : node_of plans i ≡ Some node) where
  abbrev forced : Bool
  forced = is_forced inserted now.time i

  same_node : can.node ≡ node
  same_node = same_Some can.node node (sym can.found ∙ found)

  -- a part of it can be asked, ends in time, and stands in the plan of its rule
  part_all : (P : Plan → Type 0) (part : Plan) → IsAskedPart now node i part → AllByRecursion P (nodes node) → AllByRecursion P (nodes part)
  part_all P part is each =
      AllByRecursion-from_contains P (nodes part) (λ leaf there. AllByRecursion-contains P (nodes node) leaf each (is.inside leaf there))

  pub parts_end : (part : Option Plan) → IfSome part (IsAskedPart now node i) → IfSome part (λ p. AllByRecursion EndsInTime (nodes p))
  parts_end None is = tt
  parts_end (Some part) is = part_all EndsInTime part is (subst (λ n. AllByRecursion EndsInTime (nodes n)) same_node can.ends)

  pub parts_stand : FoundIsFirst → PlansStand plans → (part : Option Plan) → IfSome part (IsAskedPart now node i)
      → IfSome part (StandsIn plans i.rule)
  parts_stand first stand None is = tt
  parts_stand first stand (Some part) is =
      let stands = stands_found first plans stand i node found in
      record {
        back = part_all GuardLooksBack part is stands.back;
        named = part_all (IsNodeByNumber plans i.rule) part is stands.named;
      }

  -- what becomes of the instance
  pub becomes : (stays : Bool) (part : Option Plan) → WillBecome now node i forced stays part → (begun : List Instance)
      → ((trace : List Step) → IsNowOf now trace → BegunFor trace i part begun)
      → (trace : List Step) → IsNowOf now trace → (forced ≡ true → IsInstanceServed trace node i)
      → After plans trace i (cond stays (i ∷ []) [] ++ begun)
  becomes stays part turns begun are trace is served =
      subst (λ o. AtNode o (λ n. BecomesAt trace n i (cond stays (i ∷ []) [] ++ begun))) (sym found)
      (turns.becomes trace is served begun (are trace is))

  pub served_in : (trace : List Step) → IsNowOf now trace → AreServed plans inserted trace (i ∷ []) → forced ≡ true → IsInstanceServed trace node i
  served_in trace is served it =
      subst (λ o. AtNode o (λ n. IsInstanceServed trace n i)) found
      (served.0 (subst (λ (time : ℕ). is_forced inserted time i ≡ true) (sym is.time) it))

  asked_part : (part : Option Plan) (p : Plan) → part ≡ Some p → IfSome part (HasPart node) → HasPart node p
  asked_part None p is asks = absurd (none-some p is)
  asked_part (Some q) p is asks = subst (HasPart node) (same_Some q p is) asks

  pub comes_one : (stays : Bool) (part : Option Plan) → WillBecome now node i forced stays part → (begun : List Instance)
      → ((j : Instance) → Contains begun j → (p : Plan) × (part ≡ Some p) × IsBegunHere now i.rule p j)
      → (j : Instance) → Contains (cond stays (i ∷ []) [] ++ begun) j → ComesOf now plans inserted i j
  comes_one stays part turns begun comes j there =
      subst (λ o. AtNode o (λ n. ((i ≡ j) × (has_deadline n ≡ true → forced ≡ false))
      ⊎ ((p : Plan) × HasPart n p × IsBegunHere now i.rule p j))) (sym found)
      (⊎_elim (λ front. inl (kept stays refl front))
      (λ back. let from = comes j back in inr (from.0, asked_part part from.0 from.1 turns.has, from.2))
      (Contains-append (cond stays (i ∷ []) []) begun j there))
    where
      kept : (b : Bool) → stays ≡ b → Contains (cond b (i ∷ []) []) j → (i ≡ j) × (has_deadline node ≡ true → forced ≡ false)
      kept true it front = (
        ⊎_elim (λ same. same) (λ none. absurd (none_in_nil j none)) (first_or_later j i [] front),
        turns.waits it,
      )
      kept false it front = absurd (none_in_nil j front)
