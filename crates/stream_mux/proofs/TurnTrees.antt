-- Trees of turns: their times, and what the root is.
use Rattle.std.proofs.Common.{ap, arith, refl, subst, sym, ◌∙◌, inl, inr, ⊎_elim, suc, zero}
use Rattle.std.proofs.lemmas.Bool.Decides.{nat_tests}
use Rattle.std.proofs.lemmas.List.{drop-replicate, drop-set-add, get_or_past, length-drop, length-map, map-set}
use Rattle.std.proofs.lemmas.Option.{none-some, same_Some}
use Rattle.std.specs.Option.{option_map}
use Rattle.std.specs.Prelude.{ℕ, List, ◌∷◌, ◌≡◌, ◌≢◌, ◌+◌, ◌-◌, ◌*◌, ◌/◌, ◌<◌, ◌≤◌, ◌⊎◌, Bool, true, false, ◌==◌, cond, drop, length, nat_lt as ltb}
use Rattle.std.specs.Prelude.{Option, None, Some, get_or, map, replicate, set}
use Rattle.stream_mux.proofs.MergeOrder.{lex_false, lex_far, lex_same, lex_turned}
use Rattle.stream_mux.specs.declared.turns.Turn.{Turn}
use Rattle.stream_mux.specs.machine.Turns.{IsFirstTurn, IsNotBefore, IsTurnTree, IsWon, earlier_turn, is_earlier, node}
use Rattle.stream_mux.specs.machine.Turns.{time_of_turn, times_of_nodes, turn_at}

no_times : (n : ℕ) → map (option_map time_of_turn) (replicate n None) ≡ replicate n None
no_times zero = refl
no_times (suc n) = ap (λ l. None ∷ l) (no_times n)

pub times_of_none : (n : ℕ) → times_of_nodes n (replicate (2 * n) None) ≡ replicate n None
times_of_none n =
    let half : drop n (replicate (2 * n) None) ≡ replicate n None =
    drop-replicate n (2 * n) None ∙ ap (λ (k : ℕ). replicate k None) (omega arith) in
    ap (map (option_map time_of_turn)) half ∙ no_times n

time_of_turn_at : (s : ℕ) (time : Option ℕ) → option_map time_of_turn (turn_at s time) ≡ time
time_of_turn_at s None = refl
time_of_turn_at s (Some t) = refl

pub times_of_set : (count s : ℕ) (nodes : List (Option Turn)) (time : Option ℕ)
    → times_of_nodes count (set nodes (count + s) (turn_at s time)) ≡ set (times_of_nodes count nodes) s time
times_of_set count s nodes time =
    ap (map (option_map time_of_turn)) (drop-set-add count nodes s (turn_at s time))
    ∙ map-set (option_map time_of_turn) (drop count nodes) s (turn_at s time)
    ∙ ap (set (times_of_nodes count nodes) s) (time_of_turn_at s time)

-- ---- The root.

-- a turn is not before that of a node, which has one
abbrev pub IsNotBeforeNode : Option Turn → Turn → Type 0
IsNotBeforeNode None turn = ⊥
IsNotBeforeNode (Some first) turn = is_earlier turn first ≡ false

not_before_on : (o : Option Turn) (turn other : Turn) → IsNotBeforeNode o turn → is_earlier other turn ≡ false → IsNotBeforeNode o other
not_before_on None turn other h k = h
not_before_on (Some first) turn other h k =
    lex_far other.time other.stream turn.time turn.stream first.time first.stream k h

earlier_left : (o p : Option Turn) (turn : Turn) → IsNotBeforeNode o turn → IsNotBeforeNode (earlier_turn o p) turn
earlier_left None p turn h = absurd h
earlier_left (Some a) None turn h = h
earlier_left (Some a) (Some b) turn h = by (is_earlier b a) refl
  where
    by : (d : Bool) → is_earlier b a ≡ d → IsNotBeforeNode (cond d (Some b) (Some a)) turn
    by true e = lex_far turn.time turn.stream a.time a.stream b.time b.stream h (lex_turned b.time b.stream a.time a.stream e)
    by false e = h

earlier_right : (o p : Option Turn) (turn : Turn) → IsNotBeforeNode p turn → IsNotBeforeNode (earlier_turn o p) turn
earlier_right None p turn h = h
earlier_right (Some a) None turn h = absurd h
earlier_right (Some a) (Some b) turn h = by (is_earlier b a) refl
  where
    by : (d : Bool) → is_earlier b a ≡ d → IsNotBeforeNode (cond d (Some b) (Some a)) turn
    by true e = h
    by false e = lex_far turn.time turn.stream b.time b.stream a.time a.stream h e

-- no turn of a node is before that of the root
root_is_first : (count : ℕ) (nodes : List (Option Turn)) → ((place : ℕ) → 1 ≤ place → place < count → IsWon nodes place)
    → (fuel place : ℕ) → place ≤ fuel → 1 ≤ place → place < 2 * count → (turn : Turn) → IsNotBeforeNode (node nodes place) turn
    → IsNotBeforeNode (node nodes 1) turn
root_is_first count nodes won zero place most low high turn h = absurd (omega arith)
root_is_first count nodes won (suc fuel) place most low high turn h =
    by (place == 1) (place == 2 * (place / 2)) refl refl
    (λ half below. root_is_first count nodes won fuel (place / 2) (omega (arith, half)) half (omega arith) turn below)
  where
    by : (b d : Bool) → (place == 1) ≡ b → (place == 2 * (place / 2)) ≡ d
        → (1 ≤ place / 2 → IsNotBeforeNode (node nodes (place / 2)) turn → IsNotBeforeNode (node nodes 1) turn)
        → IsNotBeforeNode (node nodes 1) turn
    by true d e f up = subst (λ p. IsNotBeforeNode (node nodes p) turn) (grind (arith, nat_tests)) h
    by false true e f up =
        let apart : place ≢ 1 = grind (arith, nat_tests) in
        let even : place ≡ 2 * (place / 2) = grind (arith, nat_tests) in
        up (omega arith) (subst (λ o. IsNotBeforeNode o turn) (sym (won (place / 2) (omega arith) (omega arith)))
        (earlier_left (node nodes (2 * (place / 2))) (node nodes (2 * (place / 2) + 1)) turn
        (subst (λ p. IsNotBeforeNode (node nodes p) turn) even h)))
    by false false e f up =
        let apart : place ≢ 1 = grind (arith, nat_tests) in
        let odd : place ≢ 2 * (place / 2) = grind (arith, nat_tests) in
        let is : place ≡ 2 * (place / 2) + 1 = omega arith in
        up (omega arith) (subst (λ o. IsNotBeforeNode o turn) (sym (won (place / 2) (omega arith) (omega arith)))
        (earlier_right (node nodes (2 * (place / 2))) (node nodes (2 * (place / 2) + 1)) turn
        (subst (λ p. IsNotBeforeNode (node nodes p) turn) is h)))

earlier_is_one : (o p : Option Turn) (turn : Turn) → earlier_turn o p ≡ Some turn → (o ≡ Some turn) ⊎ (p ≡ Some turn)
earlier_is_one None p turn e = inr e
earlier_is_one (Some a) None turn e = inl e
earlier_is_one (Some a) (Some b) turn e = by (is_earlier b a) e
  where
    by : (d : Bool) → cond d (Some b) (Some a) ≡ Some turn → (Some a ≡ Some turn) ⊎ (Some b ≡ Some turn)
    by true e = inr e
    by false e = inl e

-- the turn of a node is that of a stream
pub record IsStreamNode (count : ℕ) (nodes : List (Option Turn)) (turn : Turn) : Type 0 where
  pub stream : ℕ
  pub within : stream < count
  pub is : node nodes (count + stream) ≡ Some turn

of_a_stream : (count : ℕ) (nodes : List (Option Turn)) → length nodes ≡ 2 * count
    → ((place : ℕ) → 1 ≤ place → place < count → IsWon nodes place)
    → (fuel place : ℕ) → 2 * count ≤ place + fuel → 1 ≤ place → (turn : Turn) → node nodes place ≡ Some turn
    → IsStreamNode count nodes turn
of_a_stream count nodes size won zero place most low turn e =
    absurd (none-some turn (sym (get_or_past nodes place None (omega (arith, size, most))) ∙ e))
of_a_stream count nodes size won (suc fuel) place most low turn e =
    by (ltb place count) refl (λ p low more is. of_a_stream count nodes size won fuel p more low turn is)
  where
    by : (b : Bool) → ltb place count ≡ b
        → ((p : ℕ) → 1 ≤ p → 2 * count ≤ p + fuel → node nodes p ≡ Some turn → IsStreamNode count nodes turn)
        → IsStreamNode count nodes turn
    by true d down =
        let below : place < count = grind (arith, nat_tests) in
        ⊎_elim (down (2 * place) (omega arith) (omega arith)) (down (2 * place + 1) (omega arith) (omega arith))
        (earlier_is_one (node nodes (2 * place)) (node nodes (2 * place + 1)) turn (sym (won place low below) ∙ e))
    by false d down = leaf (ltb place (2 * count)) refl
      where
        leaf : (b : Bool) → ltb place (2 * count) ≡ b → IsStreamNode count nodes turn
        leaf true f =
            let above : count ≤ place = grind (arith, nat_tests) in
            let below : place < 2 * count = grind (arith, nat_tests) in
            let there : count + (place - count) ≡ place = omega arith in
            record {
              stream = place - count;
              within = omega arith;
              is = ap (node nodes) there ∙ e;
            }
        leaf false f =
            let past : 2 * count ≤ place = grind (arith, nat_tests) in
            absurd (none-some turn (sym (get_or_past nodes place None (omega (arith, size, past))) ∙ e))

turn_of_time : (s : ℕ) (time : Option ℕ) (turn : Turn) → turn_at s time ≡ Some turn → (time ≡ Some turn.time) × (turn.stream ≡ s)
turn_of_time s None turn e = absurd (none-some turn e)
turn_of_time s (Some t) turn e =
    let is = same_Some (record { time = t; stream = s }) turn e in
    (λ i. Some ((is i).time), ap (λ (u : Turn). u.stream) (sym is))

length_of_times : (count : ℕ) (nodes : List (Option Turn)) → length nodes ≡ 2 * count → length (times_of_nodes count nodes) ≡ count
length_of_times count nodes size = omega (arith, length-map (drop count nodes) (option_map time_of_turn), length-drop count nodes, size)

-- the turn of a stream that has a time stands in the tree
stands_there : (count : ℕ) (nodes : List (Option Turn)) → IsTurnTree count nodes → (s t : ℕ)
    → get_or (times_of_nodes count nodes) s None ≡ Some t
    → (s < count) × (node nodes (count + s) ≡ Some (record { time = t; stream = s }))
stands_there count nodes tree s t e = by (ltb s count) refl
  where
    by : (b : Bool) → ltb s count ≡ b → (s < count) × (node nodes (count + s) ≡ Some (record { time = t; stream = s }))
    by true d =
        let below : s < count = grind (arith, nat_tests) in
        (below, tree.streams s below ∙ ap (turn_at s) e)
    by false d =
        let past : count ≤ s = grind (arith, nat_tests) in
        absurd (none-some t (sym (get_or_past (times_of_nodes count nodes) s None
        (omega (arith, length_of_times count nodes tree.size, past))) ∙ e))

pub first_of_tree : (count : ℕ) (nodes : List (Option Turn)) → IsTurnTree count nodes → (root : Option Turn)
    → node nodes 1 ≡ root → IsFirstTurn (times_of_nodes count nodes) root
first_of_tree count nodes tree root is = by root is
  where
    behind : (s t : ℕ) → get_or (times_of_nodes count nodes) s None ≡ Some t
        → IsNotBeforeNode (node nodes 1) (record { time = t; stream = s })
    behind s t e =
        let there = stands_there count nodes tree s t e in
        root_is_first count nodes tree.won (count + s) (count + s) (omega arith) (omega (arith, there.0)) (omega (arith, there.0))
        (record { time = t; stream = s })
        (subst (λ o. IsNotBeforeNode o (record { time = t; stream = s })) (sym there.1) (lex_same t s))

    none : (s : ℕ) (o : Option ℕ) → get_or (times_of_nodes count nodes) s None ≡ o → node nodes 1 ≡ None → o ≡ None
    none s None e is = refl
    none s (Some t) e is = absurd (subst (λ o. IsNotBeforeNode o (record { time = t; stream = s })) is (behind s t e))

    some : (turn : Turn) → node nodes 1 ≡ Some turn → (s t : ℕ) → get_or (times_of_nodes count nodes) s None ≡ Some t
        → IsNotBefore t s turn
    some turn is s t e =
        ⊎_elim inl (λ (h : (t ≡ turn.time) × (turn.stream ≤ s)). inr (sym h.0, h.1)) (lex_false t s turn.time turn.stream
        (subst (λ o. IsNotBeforeNode o (record { time = t; stream = s })) is (behind s t e)))

    by : (root : Option Turn) → node nodes 1 ≡ root → IsFirstTurn (times_of_nodes count nodes) root
    by None is = λ s. none s (get_or (times_of_nodes count nodes) s None) refl is
    by (Some turn) is =
        let leaf = of_a_stream count nodes tree.size tree.won (2 * count) 1 (omega arith) (omega arith) turn is in
        let parts = turn_of_time leaf.stream (get_or (times_of_nodes count nodes) leaf.stream None) turn
        (sym (tree.streams leaf.stream leaf.within) ∙ leaf.is) in (
          subst (λ (s : ℕ). get_or (times_of_nodes count nodes) s None ≡ Some turn.time) (sym parts.1) parts.0,
          omega (arith, parts.1, leaf.within, length_of_times count nodes tree.size),
          some turn is,
        )
