-- Greatest and least numbers of joined lists, and surveys of joined nodes.
use Rattle.rank_check.proofs.Vocabulary.{◌≡◌, ℕ, zero, suc, get_or, take, ◌<◌, Bool, ◌+◌, ◌*◌, ◌-◌, ◌≤◌, max, min, true, false, cond, List, [], ◌∷◌, ◌++◌, length, map, arith, ap, sym, subst, ◌∙◌}
use Rattle.rank_check.proofs.Vocabulary.{length-append, AllByRecursion, filter, flat_map, flat_map-append, append-nil, map-append, map_more, filter-append, has_deadline, nodes, window_end, Plan}
use Rattle.rank_check.proofs.Vocabulary.{UntilPlan, caused_at, plan_of, greatest, least_with, rank_in, class_in, IsSurvey, Survey}
use Rattle.plan_terms.specs.declared.plans.Plan.{Plan as Stored}

pub greatest-append : (xs ys : List ℕ) → greatest (xs ++ ys) ≡ max (greatest xs) (greatest ys)
greatest-append [] ys = omega arith
greatest-append (x ∷ xs) ys = omega (arith, greatest-append xs ys)

pub least_with-le : (most : ℕ) (xs : List ℕ) → least_with most xs ≤ most
least_with-le most [] = omega arith
least_with-le most (x ∷ xs) = omega (arith, least_with-le most xs)

pub least_with-append : (most : ℕ) (xs ys : List ℕ) → least_with most (xs ++ ys) ≡ min (least_with most xs) (least_with most ys)
least_with-append most [] ys = omega (arith, least_with-le most ys)
least_with-append most (x ∷ xs) ys = omega (arith, least_with-append most xs ys)

-- the greatest of a measure over the nodes with deadlines
abbrev pub over : (Plan → ℕ) → List Plan → ℕ
over f ns = greatest (map f (filter has_deadline ns))

pub over-append : (f : Plan → ℕ) (xs ys : List Plan) → over f (xs ++ ys) ≡ max (over f xs) (over f ys)
over-append f xs ys =
    ap (λ l. greatest (map f l)) (filter-append has_deadline xs ys)
    ∙ ap greatest (map-append f (filter has_deadline xs) (filter has_deadline ys))
    ∙ greatest-append (map f (filter has_deadline xs)) (map f (filter has_deadline ys))

-- one plan more
pub over_push : (f : Plan → ℕ) (xs : List Plan) (p : Plan) → over f (flat_map nodes (xs ++ p ∷ [])) ≡ max (over f (flat_map nodes xs)) (over f (nodes p))
over_push f [] p =
    let same : over f (nodes p ++ []) ≡ over f (nodes p) = ap (over f) (append-nil (nodes p)) in
    omega (arith, same)
over_push f (x ∷ xs) p = omega (
  arith,
  over_push f xs p,
  over-append f (nodes x) (flat_map nodes (xs ++ p ∷ [])),
  over-append f (nodes x) (flat_map nodes xs),
)

-- one number more
pub measure_push : (f : Plan → ℕ) (xs ys : List Plan) (p : Plan) → ys ≡ xs ++ p ∷ [] → greatest (map f ys) ≡ max (greatest (map f xs)) (f p)
measure_push f xs ys p is =
    let parts : greatest (map f ys) ≡ max (greatest (map f xs)) (greatest (f p ∷ [])) =
    ap (λ l. greatest (map f l)) is ∙ ap greatest (map-append f xs (p ∷ [])) ∙ greatest-append (map f xs) (f p ∷ []) in
    omega (arith, parts)

-- none is above a bound of each
pub measure-le : (f : Plan → ℕ) (most : ℕ) (xs : List Plan) → AllByRecursion (λ p. f p ≤ most) xs → greatest (map f xs) ≤ most
measure-le f most [] all = omega arith
measure-le f most (x ∷ xs) all = omega (arith, all.0, measure-le f most xs all.1)

one_over-le : (f : Plan → ℕ) (most : ℕ) (x : Plan) (xs : List Plan) (b : Bool) → f x ≤ most → greatest (map f xs) ≤ most → greatest (map f (cond b (x ∷ xs) xs)) ≤ most
one_over-le f most x xs true this rest = omega (arith, this, rest)
one_over-le f most x xs false this rest = rest

pub over-le : (f : Plan → ℕ) (most : ℕ) (xs : List Plan) → AllByRecursion (λ p. f p ≤ most) xs → over f xs ≤ most
over-le f most [] all = omega arith
over-le f most (x ∷ xs) all = one_over-le f most x (filter has_deadline xs) (has_deadline x) all.0 (over-le f most xs all.1)

-- what is met in a loop over stored plans
pub of_item : (P : Plan → Type 0) (xs : List Stored) (i : ℕ) (x : Stored) → AllByRecursion P (map plan_of xs) → i < length xs → x ≡ get_or xs i x → P (plan_of x)
of_item P [] i x all within is = absurd (omega (arith, within))
of_item P (y ∷ ys) zero x all within is = subst (λ (z : Stored). P (plan_of z)) (sym is) all.0
of_item P (y ∷ ys) (suc i) x all within is = of_item P ys i x all.1 (omega (arith, within)) is

pub item_push : (xs : List Stored) (i : ℕ) (x : Stored) → i < length xs → x ≡ get_or xs i x → map plan_of (take (i + 1) xs) ≡ map plan_of (take i xs) ++ plan_of x ∷ []
item_push xs i x within is = map_more plan_of xs i x within ∙ ap (λ z. map plan_of (take i xs) ++ plan_of z ∷ []) (sym is)

abbrev both : Survey → Survey → Survey
both a b = record {
  size = a.size + b.size;
  least = min a.least b.least;
  class = max a.class b.class;
  end = max a.end b.end;
}

abbrev one_more : Survey → Survey
one_more a = record { size = a.size + 1; least = a.least; class = a.class; end = a.end }

abbrev owing : (above step high : ℕ) → Survey → Survey
owing above step high a = record {
  size = a.size;
  least = a.least;
  class = max ((above - a.least) * step + a.size) a.class;
  end = max high a.end;
}

module _ (above step : ℕ) (ranks : List ℕ) where
  joined : (xs ys : List Plan) (a b : Survey) → IsSurvey above step ranks xs a → IsSurvey above step ranks ys b → IsSurvey above step ranks (xs ++ ys) (both a b)
  joined xs ys a b first second =
      let least : least_with above (map (rank_in ranks) (flat_map caused_at (xs ++ ys)))
      ≡ min (least_with above (map (rank_in ranks) (flat_map caused_at xs))) (least_with above (map (rank_in ranks) (flat_map caused_at ys))) =
      ap (λ l. least_with above (map (rank_in ranks) l)) (flat_map-append caused_at xs ys)
      ∙ ap (least_with above) (map-append (rank_in ranks) (flat_map caused_at xs) (flat_map caused_at ys))
      ∙ least_with-append above (map (rank_in ranks) (flat_map caused_at xs)) (map (rank_in ranks) (flat_map caused_at ys)) in
      record {
        size = omega (arith, first.size, second.size, length-append xs ys);
        least = omega (arith, first.least, second.least, least);
        class = omega (arith, first.class, second.class, over-append (class_in above step ranks) xs ys);
        end = omega (arith, first.end, second.end, over-append window_end xs ys);
      }

  -- two sides below a node that has no deadline itself
  pub of_two : (node : Plan) (xs ys : List Plan) (a b ab found : Survey) → caused_at node ≡ [] → has_deadline node ≡ false → IsSurvey above step ranks xs a
      → IsSurvey above step ranks ys b → ab ≡ both a b → found ≡ one_more ab → IsSurvey above step ranks (node ∷ (xs ++ ys)) found
  of_two node xs ys a b ab found causes free first second joins is =
      let both_found : IsSurvey above step ranks (xs ++ ys) ab = subst (IsSurvey above step ranks (xs ++ ys)) (sym joins) (joined xs ys a b first second) in
      let more : IsSurvey above step ranks (node ∷ (xs ++ ys)) (one_more ab) = record {
        size = omega (arith, both_found.size);
        least = both_found.least ∙ ap (λ l. least_with above (map (rank_in ranks) (l ++ flat_map caused_at (xs ++ ys)))) (sym causes);
        class = both_found.class ∙ ap (λ b. greatest (map (class_in above step ranks) (cond b (node ∷ filter has_deadline (xs ++ ys)) (filter has_deadline (xs ++ ys))))) (sym free);
        end = both_found.end ∙ ap (λ b. greatest (map window_end (cond b (node ∷ filter has_deadline (xs ++ ys)) (filter has_deadline (xs ++ ys))))) (sym free);
      } in
      subst (IsSurvey above step ranks (node ∷ (xs ++ ys))) (sym is) more

  -- and below an `Until`
  pub of_until : (number place low high : ℕ) (left right : Plan) (a b ab more found : Survey) → IsSurvey above step ranks (nodes left) a → IsSurvey above step ranks (nodes right) b
      → ab ≡ both a b → more ≡ one_more ab → found ≡ owing above step high more → IsSurvey above step ranks (nodes (UntilPlan number place low high left right)) found
  of_until number place low high left right a b ab more found first second joins one is =
      let all = nodes left ++ nodes right in
      let both_found : IsSurvey above step ranks all ab = subst (IsSurvey above step ranks all) (sym joins) (joined (nodes left) (nodes right) a b first second) in
      let last : IsSurvey above step ranks (nodes (UntilPlan number place low high left right)) (owing above step high (one_more ab)) =
      let size : ab.size + 1 ≡ length (UntilPlan number place low high left right ∷ all) = omega (arith, both_found.size) in
      record {
        size = size;
        least = both_found.least;
        class = let least = both_found.least in let class = both_found.class in cc;
        end = ap (max high) both_found.end;
      } in
      subst (IsSurvey above step ranks (nodes (UntilPlan number place low high left right))) (sym (is ∙ ap (owing above step high) one)) last
