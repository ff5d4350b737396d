use Rattle.choice_step.proofs.Vocabulary.{◌≡◌, ◌∙◌, ℕ, List, None, Some, Contains, map, sym, subst, ap, slice_get, option_map, NameId, AreAllIn, woken_by}
use Rattle.choice_step.proofs.rule_triggers.Wakes.of.Goals as goal

pub invariant_of-result : goal.invariant_of-result
invariant_of-result c =
    let always = c.in_ok-always.always.items in
    let woken = c.in_ok-woken.woken.items in
    subst (λ l. AreAllIn (map (option_map (λ names. names.items)) l) always woken) (sym c.from_vec.ensures) (record {
      always_there = subst (λ l. (rule : ℕ) → slice_get (map (option_map (λ names. names.items)) l) rule ≡ Some None → Contains always rule) c.as_slice.ensures.value c.in_ok-always.ensures;
      order = c.in_ok-woken.ensures.order;
      named_there = subst (λ l. (rule : ℕ) (names : List NameId) (name : NameId) → slice_get (map (option_map (λ names. names.items)) l) rule ≡ Some (Some names) → Contains names name
          → Contains woken (woken_by rule name)) c.as_slice-2.ensures.value c.in_ok-woken.ensures.all;
    })

pub returns : goal.returns
returns c = ap (map (option_map (λ names. names.items))) c.from_vec.ensures ∙ c.in_ok-names.ensures
