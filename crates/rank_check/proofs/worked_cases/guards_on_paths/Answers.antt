use Rattle.rank_check.proofs.Vocabulary.{◌≡◌, ℕ, zero, suc, ◌+◌, true, List, [], ◌∷◌, Contains, None, Some, refl, ap, subst, sym, arith, ⊎_elim, slice_get, name_p, name_q, NameId, each_soon, soon_q_x}
use Rattle.rank_check.proofs.Vocabulary.{nodes, node_number, Plan, IsNumberedPlan, here, later, first_or_later, none_in_nil, name_r, guarded_twice, then_always_guarded, then_always_q, Edge, Causes}
use Rattle.rank_check.proofs.Vocabulary.{first_place, visits}
use Rattle.rank_check.proofs.BareLemmas.{first_of_plans, none_bare, none_in_plan, NoneBefore}
use Rattle.rank_check.proofs.CauseLemmas.{edge_if_caused, caused_if_edge}
use Rattle.rank_check.proofs.worked_cases.guards_on_paths.Goals as goal

-- an edge of one plan is caused in it
in_plan : (plan : Plan) (from to : NameId) → Edge (plan ∷ []) from to → Causes true [] plan from to
in_plan plan from to edge =
    let caused = caused_if_edge from to (plan ∷ []) edge in
    ⊎_elim (λ (same : plan ≡ caused.0). subst (λ p. Causes true [] p from to) (sym same) caused.2) (λ (none : Contains [] caused.0). absurd (none_in_nil caused.0 none))
    (first_or_later caused.0 plan [] caused.1)

not_in_one : (a b : NameId) → (a ≡ b → ⊥) → Contains (a ∷ []) b → ⊥
not_in_one a b apart there = ⊎_elim apart (λ none. none_in_nil b none) (first_or_later b a [] there)

pub returns-clause-first_guard : goal.returns-clause-first_guard
returns-clause-first_guard c = edge_if_caused name_p name_r (guarded_twice ∷ []) guarded_twice (here guarded_twice []) (here name_p [], refl)

pub returns-clause-not_the_second : goal.returns-clause-not_the_second
returns-clause-not_the_second c edge = not_in_one name_p name_q (λ (e : name_p ≡ name_q). let n : 0 ≡ 1 = ap (λ (x : NameId). x.0) e in omega arith) (in_plan guarded_twice name_q name_r edge).0

pub returns-clause-earlier_start : goal.returns-clause-earlier_start
returns-clause-earlier_start c = edge_if_caused name_p name_r (then_always_guarded ∷ []) then_always_guarded (here then_always_guarded []) (here name_p (name_q ∷ []), refl)

pub returns-clause-later_start : goal.returns-clause-later_start
returns-clause-later_start c = edge_if_caused name_q name_r (then_always_guarded ∷ []) then_always_guarded (here then_always_guarded []) (later name_q name_p (name_q ∷ []) (here name_q []), refl)

pub returns-clause-not_backwards : goal.returns-clause-not_backwards
returns-clause-not_backwards c edge = not_in_one name_p name_q (λ (e : name_p ≡ name_q). let n : 0 ≡ 1 = ap (λ (x : NameId). x.0) e in omega arith) (in_plan each_soon name_q name_p edge).0

-- a first plan with nothing bare
first_alone : (plan : Plan) (plans : List Plan) → first_place (visits true plan) ≡ None → NoneBefore (plan ∷ plans) 1
first_alone plan plans none zero other below is = let same : plan ≡ other = cc in subst (λ p. first_place (visits true p) ≡ None) same none
first_alone plan plans none (suc rule) other below is = absurd (omega (arith, below))

-- nodes that are numbered from a number on
abbrev FromOn : ℕ → List Plan → Type 0
FromOn first [] = Unit {0}
FromOn first (node ∷ nodes) = (node_number node ≡ first) × FromOn (suc first) nodes

numbered : (first : ℕ) (nodes : List Plan) → FromOn first nodes → (k : ℕ) (node : Plan) → slice_get nodes k ≡ Some node → node_number node ≡ first + k
numbered first [] all k node is = absurd (cc)
numbered first (n ∷ nodes) all zero node is =
    let same : n ≡ node = cc in let number : node_number n ≡ node_number node = ap node_number same in omega (arith, number, all.0)
numbered first (n ∷ nodes) all (suc k) node is = omega (arith, numbered (suc first) nodes all.1 k node is)

in_order : (plan : Plan) → FromOn 0 (nodes plan) → IsNumberedPlan plan
in_order plan all number node is = omega (arith, numbered 0 (nodes plan) all number node is)

pub returns-clause-triggered : goal.returns-clause-triggered
returns-clause-triggered c is = none_in_plan each_soon refl soon_q_x is

pub returns-clause-each_is_triggered : goal.returns-clause-each_is_triggered
returns-clause-each_is_triggered c = none_bare (then_always_guarded ∷ []) (first_alone then_always_guarded [] refl)

pub returns-clause-first_untriggered : goal.returns-clause-first_untriggered
returns-clause-first_untriggered c =
    first_of_plans (then_always_guarded ∷ then_always_q ∷ []) 1 then_always_q 6
    (in_order then_always_guarded (refl, (refl, (refl, (refl, tt)))), (in_order then_always_q (refl, (refl, (refl, tt))), tt))
    (first_alone then_always_guarded (then_always_q ∷ []) refl) refl refl
