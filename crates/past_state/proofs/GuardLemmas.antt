-- The guards of a past state, one after another.
use Rattle.past_state.proofs.Vocabulary.{◌≡◌, ◌∙◌, ◌⊎◌, ℕ, zero, suc, ◌+◌, ◌-◌, ◌<◌, ◌≤◌, List, [], ◌∷◌, ◌++◌, length, map, take, drop, reverse, get_or, All, IsTrue, Contains, refl, sym, ap, subst}
use Rattle.past_state.proofs.Vocabulary.{arith, drop-cons, append-nil, length-append, length-drop, length-map, length-reverse, map-append, reverse-append, take_more, take_all, All-cons, All-nil}
use Rattle.past_state.proofs.Vocabulary.{All-head, All-tail, All-push, Formula, IsFree, tree_of, is_past, BindsFresh, BoundFormula, outermost, tree_in, count_in, AreCopies, IsFreshGuard, IsPastGuard}
use Rattle.past_state.proofs.Vocabulary.{PushesFor, operators, all_operators, all_outermost, BeginAt, IsPast, IsSoundGuard, formulas_of_guards, guard_formula, AreFor, PlacedGuard, OperatorState}
use Rattle.past_state.proofs.GuardLaws.{copies_formulas}
use Rattle.past_state.proofs.FirstMemoryLemmas.{pushes_both, pushes_none, outermost_fewer, pushed_long}

nothing_behind : {X : Type 0} (xs : List X) → drop (length xs) xs ≡ []
nothing_behind [] = refl
nothing_behind (x ∷ xs) = nothing_behind xs

-- the last p + 1 items are the one before the last p, and these
one_before : {X : Type 0} (xs : List X) (p : ℕ) (x : X) → p < length xs → drop (length xs - (p + 1)) xs ≡ get_or xs (length xs - 1 - p) x ∷ drop (length xs - p) xs
one_before xs p x below =
    let k : ℕ = length xs - (p + 1) in
    let inside : k < length xs = omega (arith, below) in
    let next : suc k ≡ length xs - p = omega (arith, below) in
    let same : k ≡ length xs - 1 - p = omega (arith, below) in
    drop-cons xs k x inside ∙ (λ i. get_or xs (same i) x ∷ drop (next i) xs)

reversed : {X Y : Type 0} (f : X → Y) (x : X) (xs : List X) → reverse (map f (x ∷ xs)) ≡ reverse (map f xs) ++ f x ∷ []
reversed f x xs = reverse-append (f x ∷ []) (map f xs)

pub counted_none : (guards : List BoundFormula) (counts : List ℕ) → counts ≡ [] → counts ≡ reverse (map count_in (drop (length guards - 0) guards))
counted_none guards counts e =
    let all : length guards ≡ length guards - 0 = omega arith in
    e ∙ ap (λ l. reverse (map count_in l)) (sym (nothing_behind guards) ∙ ap (λ n. drop n guards) all)

pub pushed_none : (guards : List BoundFormula) (before : List OperatorState) → PushesFor (reverse (all_operators (map tree_in (drop (length guards - 0) guards)))) before before
pushed_none guards before =
    let all : length guards ≡ length guards - 0 = omega arith in
    subst (λ l. PushesFor (reverse (all_operators (map tree_in l))) before before) (sym (nothing_behind guards) ∙ ap (λ n. drop n guards) all) (pushes_none before)

pub counted_more : (guards : List BoundFormula) (p : ℕ) (g : BoundFormula) (counts after : List ℕ) (count : ℕ) → p < length guards → g ≡ get_or guards (length guards - 1 - p) g
    → counts ≡ reverse (map count_in (drop (length guards - p) guards))
    → count ≡ count_in g → after ≡ counts ++ count ∷ [] → after ≡ reverse (map count_in (drop (length guards - (p + 1)) guards))
counted_more guards p g counts after count below is so_far counted grown =
    grown ∙ (λ i. so_far i ++ counted i ∷ []) ∙ sym (reversed count_in g (drop (length guards - p) guards))
    ∙ ap (λ l. reverse (map count_in l)) (ap (λ h. h ∷ drop (length guards - p) guards) is ∙ sym (one_before guards p g below))

pub pushed_more : (guards : List BoundFormula) (p : ℕ) (g : BoundFormula) (before middle after : List OperatorState) → p < length guards → g ≡ get_or guards (length guards - 1 - p) g
    → PushesFor (reverse (all_operators (map tree_in (drop (length guards - p) guards)))) before middle → PushesFor (reverse (operators (tree_in g))) middle after
    → PushesFor (reverse (all_operators (map tree_in (drop (length guards - (p + 1)) guards)))) before after
pushed_more guards p g before middle after below is so_far pushed =
    subst (λ l. PushesFor (reverse (all_operators (map tree_in l))) before after) (ap (λ h. h ∷ drop (length guards - p) guards) is ∙ sym (one_before guards p g below))
    (pushes_both (operators (tree_in g)) (all_operators (map tree_in (drop (length guards - p) guards))) before middle after so_far pushed)

pub copies_more : (guards : List BoundFormula) (placed : List PlacedGuard) (g : BoundFormula) (p : PlacedGuard) → AreCopies guards placed → tree_of p.guard.formula ≡ tree_in g
    → p.guard.bound ≡ g.bound
    → AreCopies (guards ++ g ∷ []) (placed ++ p ∷ [])
copies_more [] [] g p copies same bound = (same, bound, tt)
copies_more [] (q ∷ placed) g p copies same bound = absurd copies
copies_more (h ∷ guards) [] g p copies same bound = absurd copies
copies_more (h ∷ guards) (q ∷ placed) g p copies same bound = (copies.0, copies.1, copies_more guards placed g p copies.2 same bound)

begin_more : (n : ℕ) (placed : List PlacedGuard) (p : PlacedGuard) → BeginAt n placed → p.start ≡ n + length (all_outermost (formulas_of_guards placed)) → BeginAt n (placed ++ p ∷ [])
begin_more n [] p begin start = (start ∙ omega arith, tt)
begin_more n (q ∷ placed) p begin start =
    (begin.0, begin_more (n + length (outermost (guard_formula q))) placed p begin.1 (start ∙ omega (arith, length-append (outermost (guard_formula q)) (all_outermost (formulas_of_guards placed)))))

outermost_more : (fs : List Formula) (f : Formula) → length (all_outermost (fs ++ f ∷ [])) ≡ length (all_outermost fs) + length (outermost f)
outermost_more [] f = ap length (append-nil (outermost f)) ∙ omega arith
outermost_more (g ∷ fs) f = omega (arith, length-append (outermost g) (all_outermost (fs ++ f ∷ [])), length-append (outermost g) (all_outermost fs), outermost_more fs f)

last_same : (xs ys : List ℕ) (x y : ℕ) → xs ++ x ∷ [] ≡ ys ++ y ∷ [] → (xs ≡ ys) × (x ≡ y)
last_same [] [] x y e = (refl, cc)
last_same [] (z ∷ ys) x y e = absurd (omega (arith, ap length e, length-append ys (y ∷ [])))
last_same (z ∷ xs) [] x y e = absurd (omega (arith, ap length e, length-append xs (x ∷ [])))
last_same (z ∷ xs) (w ∷ ys) x y e = let first : z ≡ w = cc in let rest = last_same xs ys x y (cc) in ((λ i. first i ∷ rest.0 i), rest.1)

-- what the loop has done after some of the guards
pub record PlacedSoFar (guards : List BoundFormula) (i : ℕ) (counts : List ℕ) (start : ℕ) (placed : List PlacedGuard) : Type 0 where
  pub counts_are : counts ≡ reverse (map count_in (drop i guards))
  pub start_is : start ≡ length (all_outermost (map tree_in (take i guards)))
  pub copies : AreCopies (take i guards) placed
  pub begin : BeginAt 0 placed
  pub past : All IsPastGuard (take i guards)

pub placed_next : (guards : List BoundFormula) (i : ℕ) (g : BoundFormula) (counts rest : List ℕ) (start count : ℕ) (placed after : List PlacedGuard) (p : PlacedGuard)
    → i < length guards → g ≡ get_or guards i g
    → PlacedSoFar guards i counts start placed → after ≡ placed ++ p ∷ [] → tree_of p.guard.formula ≡ tree_in g → p.guard.bound ≡ g.bound → p.start ≡ start → counts
    ≡ rest ++ count ∷ [] → IsPastGuard g
    → PlacedSoFar guards (i + 1) rest (start + count) after
placed_next guards i g counts rest start count placed after p below is so_far grown same bound begins popped looks_back =
    let behind : drop i guards ≡ g ∷ drop (i + 1) guards = drop-cons guards i g below ∙ (let n : suc i ≡ i + 1 = omega arith in λ j. (sym is) j ∷ drop (n j) guards) in
    let split : rest ++ count ∷ [] ≡ reverse (map count_in (drop (i + 1) guards)) ++ count_in g ∷ [] = sym popped ∙ so_far.counts_are ∙ ap (λ l. reverse (map count_in l)) behind
    ∙ reversed count_in g (drop (i + 1) guards) in
    let front : take (i + 1) guards ≡ take i guards ++ g ∷ [] = take_more guards i g below ∙ ap (λ h. take i guards ++ h ∷ []) (sym is) in
    let both = last_same rest (reverse (map count_in (drop (i + 1) guards))) count (count_in g) split in
    record {
      counts_are = both.0;
      start_is = start_next both.1 front;
      copies = subst (λ l. AreCopies l after) (sym front) (subst (AreCopies (take i guards ++ g ∷ [])) (sym grown) (copies_more (take i guards) placed g p so_far.copies same bound));
      begin = subst (BeginAt 0) (sym grown) (begin_more 0 placed p so_far.begin (begins ∙ so_far.start_is ∙ ap (λ l. length (all_outermost l))
          (sym (copies_formulas (take i guards) placed so_far.copies)) ∙ omega arith));
      past = subst (All IsPastGuard) (sym front) (All-push IsPastGuard (take i guards) g so_far.past looks_back);
    }
  where
    start_next : count ≡ count_in g → take (i + 1) guards ≡ take i guards ++ g ∷ [] → start + count ≡ length (all_outermost (map tree_in (take (i + 1) guards)))
    start_next counted front =
        let total : length (all_outermost (map tree_in (take (i + 1) guards))) ≡ length (all_outermost (map tree_in (take i guards))) + count_in g =
        ap (λ l. length (all_outermost (map tree_in l))) front ∙ ap (λ l. length (all_outermost l)) (map-append tree_in (take i guards) (g ∷ [])) ∙ outermost_more
        (map tree_in (take i guards)) (tree_in g) in
        omega (arith, total, counted, so_far.start_is)

pub placed_none : (guards : List BoundFormula) (counts : List ℕ) (placed : List PlacedGuard) → counts ≡ reverse (map count_in guards) → placed ≡ [] → PlacedSoFar guards 0 counts 0 placed
placed_none [] counts placed e none = record { counts_are = e; start_is = refl; copies = subst (AreCopies []) (sym none) tt; begin = subst (BeginAt 0) (sym none) tt; past = All-nil _ }
placed_none (g ∷ guards) counts placed e none = record { counts_are = e; start_is = refl; copies = subst (AreCopies []) (sym none) tt; begin = subst (BeginAt 0) (sym none) tt; past = All-nil _ }

pub start_fits : (guards : List BoundFormula) (i start : ℕ) (g : BoundFormula) → i < length guards → g ≡ get_or guards i g → start ≡ length (all_outermost (map tree_in (take i guards)))
    → start + count_in g ≤ length (all_outermost (map tree_in guards))
start_fits [] i start g below is begins = absurd (omega (arith, below))
start_fits (h ∷ guards) zero start g below is begins =
    let same : count_in g ≡ count_in h = ap count_in is in omega (arith, begins, same, length-append (outermost (tree_in h)) (all_outermost (map tree_in guards)))
start_fits (h ∷ guards) (suc i) start g below is begins =
    let n : ℕ = length (all_outermost (map tree_in (take i guards))) in
    let split : start ≡ length (outermost (tree_in h)) + n = begins ∙ length-append (outermost (tree_in h)) (all_outermost (map tree_in (take i guards))) in
    omega (arith, split, start_fits guards i n g (omega (arith, below)) is refl, length-append (outermost (tree_in h)) (all_outermost (map tree_in guards)))

next_counts : (guards : List BoundFormula) (i : ℕ) (g : BoundFormula) (counts : List ℕ) (start : ℕ) (placed : List PlacedGuard) → i < length guards → g ≡ get_or guards i g
    → PlacedSoFar guards i counts start placed
    → counts ≡ reverse (map count_in (drop (i + 1) guards)) ++ count_in g ∷ []
next_counts guards i g counts start placed below is so_far =
    let behind : drop i guards ≡ g ∷ drop (i + 1) guards = drop-cons guards i g below ∙ (let n : suc i ≡ i + 1 = omega arith in λ j. (sym is) j ∷ drop (n j) guards) in
    so_far.counts_are ∙ ap (λ l. reverse (map count_in l)) behind ∙ reversed count_in g (drop (i + 1) guards)

pub last_count : (guards : List BoundFormula) (i : ℕ) (g : BoundFormula) (counts rest : List ℕ) (start count : ℕ) (placed : List PlacedGuard) → i < length guards → g
    ≡ get_or guards i g → PlacedSoFar guards i counts start placed
    → counts ≡ rest ++ count ∷ [] → count ≡ count_in g
last_count guards i g counts rest start count placed below is so_far popped =
    (last_same rest (reverse (map count_in (drop (i + 1) guards))) count (count_in g) (sym popped ∙ next_counts guards i g counts start placed below is so_far)).1

pub counts_some : (guards : List BoundFormula) (i : ℕ) (counts : List ℕ) (start : ℕ) (placed : List PlacedGuard) → i < length guards → PlacedSoFar guards i counts start placed → 0 < length counts
counts_some guards i counts start placed below so_far =
    let long : length counts ≡ length guards - i = ap length so_far.counts_are ∙ length-reverse (map count_in (drop i guards)) ∙ length-map (drop i guards) count_in ∙ length-drop i guards in
    omega (arith, long, below)

-- ---- what is kept for the guards

all_outermost_fewer : (fs : List Formula) → length (all_outermost fs) ≤ length (all_operators fs)
all_outermost_fewer [] = omega arith
all_outermost_fewer (f ∷ fs) = omega (arith, outermost_fewer f, all_outermost_fewer fs, length-append (outermost f) (all_outermost fs), length-append (operators f) (all_operators fs))

pub few_outermost : (fs : List Formula) (before after : List OperatorState) → before ≡ [] → PushesFor (reverse (all_operators fs)) before after → length (all_outermost fs) ≤ length after
few_outermost fs before after none pushes = omega (arith, all_outermost_fewer fs, pushed_long (all_operators fs) before after pushes)

copies_sound : (guards : List BoundFormula) (placed : List PlacedGuard) → AreCopies guards placed → All IsPastGuard guards → All IsFreshGuard guards → All IsSoundGuard placed
copies_sound [] [] copies past fresh = All-nil _
copies_sound [] (p ∷ placed) copies past fresh = absurd copies
copies_sound (g ∷ guards) [] copies past fresh = absurd copies
copies_sound (g ∷ guards) (p ∷ placed) copies past fresh =
    let back : IsTrue (is_past (guard_formula p)) = subst (λ f. IsTrue (is_past f)) (sym copies.0) (All-head IsPastGuard g guards past) in
    let scoped : BindsFresh (guard_formula p) (λ x. Contains p.guard.bound x ⊎ IsFree x (guard_formula p)) =
    subst (λ f. BindsFresh f (λ x. Contains p.guard.bound x ⊎ IsFree x f)) (sym copies.0)
    (subst (λ b. BindsFresh (tree_in g) (λ x. Contains b x ⊎ IsFree x (tree_in g))) (sym copies.1) (All-head IsFreshGuard g guards fresh)) in
    All-cons IsSoundGuard p placed (back, scoped) (copies_sound guards placed copies.2 (All-tail IsPastGuard g guards past) (All-tail IsFreshGuard g guards fresh))

pub new_past : (guards : List BoundFormula) (placed : List PlacedGuard) (before after : List OperatorState) → AreCopies guards placed → BeginAt 0 placed → All IsPastGuard guards
    → All IsFreshGuard guards → before ≡ []
    → PushesFor (reverse (all_operators (map tree_in guards))) before after → IsPast (record { guards = placed; operators = after })
new_past guards placed before after copies begin past fresh none pushes = record {
  sound = copies_sound guards placed copies past fresh;
  begin = begin;
  kept = subst (AreFor (reverse (all_operators (formulas_of_guards placed)))) (sym (pushes.grown ∙ ap (λ l. l ++ pushes.added) none))
      (subst (λ fs. AreFor (reverse (all_operators fs)) pushes.added) (sym (copies_formulas guards placed copies)) pushes.are_for);
}

pub all_placed : (guards : List BoundFormula) (i : ℕ) (counts : List ℕ) (start : ℕ) (placed : List PlacedGuard) → length guards ≤ i → PlacedSoFar guards i counts start placed → All IsPastGuard guards
all_placed guards i counts start placed all so_far = subst (All IsPastGuard) (take_all i guards all) so_far.past
