-- The proofs of the laws of queues of deadlines.
use Rattle.enf_data.proofs.Lists.{here, later, first_or_later}
use Rattle.std.proofs.Common.{refl, subst, ⊎_elim, Less, arith, ap, ◌∙◌, sym}
use Rattle.std.proofs.lemmas.Bool.{cases_eq}
use Rattle.std.proofs.lemmas.List.Elements.{All-tail, All-head, All-contains, All-replicate, Contains-append_cases, Contains-append_left}
use Rattle.std.proofs.lemmas.List.Folds.{sum_by-replicate}
use Rattle.std.proofs.lemmas.List.Sums.{sum_by-append}
use Rattle.std.proofs.lemmas.Map.{lookup-none}
use Rattle.std.proofs.lemmas.Map.Entries.{lookup_head, none_past_head, lookup_tail, none_below_head}
use Rattle.std.proofs.lemmas.Map.Keys.{sorted_tail, IsDistinct-from_sorted}
use Rattle.std.proofs.lemmas.Map.Views.{All-after_first}
use Rattle.std.specs.BTreeMap.{is_at}
use Rattle.std.specs.Cmp.{nat_cmp_total, eq_by_cmp_equiv}
use Rattle.std.specs.Map.{keys_of, values_of}
use Rattle.std.specs.Option.{unwrap_or}
use Rattle.std.specs.Ordering.{nat_cmp}
use Rattle.std.specs.Prelude.{ℕ, ◌≤◌, List, ◌∷◌, ◌≡◌, Contains, replicate, [], zero, suc, Some, ◌==◌, cond, ◌<◌}
use Rattle.deadline_queue.specs.machine.Laws.{EntriesAreHeld, HoldAlike, OneDeadlineQueue}
use Rattle.deadline_queue.specs.machine.Queues.{IsDeadlineQueue, held_deadlines, IsLeastOf, held_count}

-- after the first pair of a queue there is a queue
pub queue_behind : (pair : ℕ × ℕ) (pairs : List (ℕ × ℕ)) → IsDeadlineQueue (pair ∷ pairs)
    → IsDeadlineQueue pairs
queue_behind pair pairs queue = record {
  rising = sorted_tail nat_cmp pair.0 (keys_of pairs) queue.rising;
  some = All-tail (λ count. 1 ≤ count) pair.1 (values_of pairs) queue.some;
}

-- its first pair is held at least once
first_some : (pair : ℕ × ℕ) (pairs : List (ℕ × ℕ)) → IsDeadlineQueue (pair ∷ pairs) → 1 ≤ pair.1
first_some pair pairs queue = All-head (λ count. 1 ≤ count) pair.1 (values_of pairs) queue.some

repeated : (count deadline number : ℕ) → Contains (replicate count deadline) number → deadline ≡ number
repeated count deadline number there =
    All-contains (λ x. deadline ≡ x) (replicate count deadline) number
    (All-replicate (λ x. deadline ≡ x) count deadline refl) there

-- what is held has a pair
pub entry_has_pair : (queue : List (ℕ × ℕ)) (number : ℕ) → Contains (held_deadlines queue) number
    → Contains (keys_of queue) number
entry_has_pair [] number there = there
entry_has_pair (pair ∷ pairs) number there =
    ⊎_elim (λ first. subst (Contains (pair.0 ∷ keys_of pairs)) (repeated pair.1 pair.0 number first)
    (here pair.0 (keys_of pairs))) (λ behind. later number pair.0 (keys_of pairs) (entry_has_pair pairs number behind))
    (Contains-append_cases (replicate pair.1 pair.0) (held_deadlines pairs) number there)

less_than : (x y : ℕ) → nat_cmp x y ≡ Less → x ≤ y
less_than x y less = grind (arith, less)

-- the deadline of the first pair is the least
pub first_is_least : (pair : ℕ × ℕ) (pairs : List (ℕ × ℕ)) → IsDeadlineQueue (pair ∷ pairs)
    → IsLeastOf (held_deadlines (pair ∷ pairs)) (Some pair.0)
first_is_least pair pairs queue = (
  Contains-append_left (replicate pair.1 pair.0) (held_deadlines pairs) pair.0
      (held_there pair.1 (first_some pair pairs queue)),
  λ number there. ⊎_elim (λ same. subst (λ n. pair.0 ≤ n) same (omega arith))
      (λ behind. less_than pair.0 number (All-contains (λ x. nat_cmp pair.0 x ≡ Less) (keys_of pairs) number
      (All-after_first nat_cmp pair.0 (keys_of pairs) queue.rising) behind))
      (first_or_later number pair.0 (keys_of pairs) (entry_has_pair (pair ∷ pairs) number there)),
)
  where
    held_there : (count : ℕ) → 1 ≤ count → Contains (replicate count pair.0) pair.0
    held_there zero some = absurd (omega (arith, some))
    held_there (suc count) some = here pair.0 (replicate count pair.0)

-- the one deadline of a pair is held as often as its count says, and after it not at all
held_first : (pair : ℕ × ℕ) (pairs : List (ℕ × ℕ)) → held_count (pair ∷ pairs) pair.0 ≡ pair.1
held_first pair pairs =
    ap (λ o. unwrap_or o 0)
    (lookup_head (is_at (nat_cmp pair.0)) pair pairs (grind arith))

held_behind : (pair : ℕ × ℕ) (pairs : List (ℕ × ℕ)) → IsDeadlineQueue (pair ∷ pairs)
    → held_count pairs pair.0 ≡ 0
held_behind pair pairs queue =
    ap (λ o. unwrap_or o 0)
    (lookup-none (is_at (nat_cmp pair.0)) pairs
    (none_past_head (eq_by_cmp_equiv nat_cmp_total) pair.0 pair pairs
    (IsDistinct-from_sorted nat_cmp (keys_of (pair ∷ pairs)) queue.rising) (grind arith)))

held_other : (pair : ℕ × ℕ) (pairs : List (ℕ × ℕ)) (deadline : ℕ) → (pair.0 ≡ deadline → ⊥)
    → held_count (pair ∷ pairs) deadline ≡ held_count pairs deadline
held_other pair pairs deadline other =
    ap (λ o. unwrap_or o 0)
    (lookup_tail (is_at (nat_cmp deadline)) pair pairs (grind (arith, other)))

-- a deadline stands in the list as often as it is held
pub count_entries : EntriesAreHeld
count_entries [] deadline queue = refl
count_entries (pair ∷ pairs) deadline queue =
    let rest = count_entries pairs deadline (queue_behind pair pairs queue) in
    let parts = sum_by-append (λ entry. cond (entry == deadline) 1 0) (replicate pair.1 pair.0) (held_deadlines pairs)
    in
    let first = sum_by-replicate (λ entry. cond (entry == deadline) 1 0) pair.1 pair.0 in
    ⊎_elim (λ same.
    let all : held_count (pair ∷ pairs) deadline ≡ pair.1 =
    subst (λ d. held_count (pair ∷ pairs) d ≡ pair.1) same (held_first pair pairs) in
    let none : held_count pairs deadline ≡ 0 = subst (λ d. held_count pairs d ≡ 0) same
    (held_behind pair pairs queue) in
    grind (arith, rest, parts, first, all, none, same))
    (λ other. grind (arith, rest, parts, first, held_other pair pairs deadline other, other))
    (cases_eq pair.0 deadline)

-- of queues that begin with these pairs, the first deadline of one is not below that of the other
not_below : (pair other : ℕ × ℕ) (pairs others : List (ℕ × ℕ)) → IsDeadlineQueue (pair ∷ pairs)
    → IsDeadlineQueue (other ∷ others)
    → HoldAlike (pair ∷ pairs) (other ∷ others) → pair.0 < other.0 → ⊥
not_below pair other pairs others queue behind alike below =
    let none : held_count (other ∷ others) pair.0 ≡ 0 =
    ap (λ o. unwrap_or o 0)
    (lookup-none (is_at (nat_cmp pair.0)) (other ∷ others)
    (none_below_head nat_cmp_total pair.0 other others behind.rising (grind (arith, below)))) in
    omega (arith, alike pair.0, none, held_first pair pairs, first_some pair pairs queue)

-- how often each deadline is held determines the queue
pub one_queue : OneDeadlineQueue
one_queue [] [] queue other alike = refl
one_queue [] (pair ∷ pairs) queue other alike =
    absurd (omega (arith, alike pair.0, held_first pair pairs, first_some pair pairs other))
one_queue (pair ∷ pairs) [] queue other alike =
    absurd (omega (arith, alike pair.0, held_first pair pairs, first_some pair pairs queue))
one_queue (first ∷ pairs) (pair ∷ others) queue other alike =
    let same : first.0 ≡ pair.0 =
    omega (
      arith,
      not_below first pair pairs others queue other alike,
      not_below pair first others pairs other queue (λ d. sym (alike d)),
    ) in
    let count : first.1 ≡ pair.1 =
    grind (
      arith,
      held_first first pairs,
      alike first.0,
      subst (λ d. held_count (pair ∷ others) d ≡ pair.1) (sym same) (held_first pair others),
    ) in
    let rest = one_queue pairs others (queue_behind first pairs queue) (queue_behind pair others other) (λ deadline.
    ⊎_elim (λ here. subst (λ d. held_count pairs d ≡ held_count others d) here
    (held_behind first pairs queue
    ∙ sym (subst (λ d. held_count others d ≡ 0) (sym same) (held_behind pair others other))))
    (λ else. sym (held_other first pairs deadline else) ∙ alike deadline
    ∙ held_other pair others deadline (λ there. else (same ∙ there)))
    (cases_eq first.0 deadline)) in
    ap (λ d. (d, first.1) ∷ pairs) same ∙ ap (λ n. (pair.0, n) ∷ pairs) count
    ∙ ap (λ behind. pair ∷ behind) rest
