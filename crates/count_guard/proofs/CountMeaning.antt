-- The formula of a count says how many lists of values there are.
use Rattle.count_guard.proofs.Vocabulary.{◌≡◌, ℕ, zero, suc, ◌+◌, ◌*◌, ◌<◌, ◌≤◌, ◌↔◌, List, [], ◌∷◌, ◌++◌, Contains, Some, length, map, take, drop, flat_map, refl, sym, ap, subst, ◌∙◌, arith}
use Rattle.count_guard.proofs.Vocabulary.{⊎_elim, AllByRecursion, AllByRecursion-append, AllByRecursion-of_append, Contains-append, HasNoRepeats, HasNoRepeats-push, HasNoRepeats-middle, iff_then}
use Rattle.count_guard.proofs.Vocabulary.{none_in_nil, only_item, row_fits, suc-mul, zero-mul, drop-drop, drop_at, take_at, length-append, length-map, length_push, length-take-le, length-drop, Contains-append_left}
use Rattle.count_guard.proofs.Vocabulary.{Contains-append_right, Step, VarId, Value, Var, Valuation, value_at, value_of_term, value_at-with_outside, with_values, numbered_variables, Formula, Sat, IsFree}
use Rattle.count_guard.proofs.Vocabulary.{HoldsForDifferent, CountsHoldAsSaid, all_of, after_copies, at_least, body_copy, bound_count, copies_differ, counted_copies, counted_copy, different_copies}
use Rattle.count_guard.proofs.Vocabulary.{differs_from, equal_pairs, with_terms}
use Rattle.count_guard.specs.declared.counting.CountKind.TheVariants as kinds
use Rattle.count_guard.proofs.Conjunctions.{all_of_holds, pairs_hold}
use Rattle.count_guard.proofs.CopyMeaning.{copied_same, denials}
use Rattle.count_guard.proofs.GivenTerms.{all_below_later, new_below, terms_below, terms_value}
use Rattle.count_guard.proofs.NumberedVariables.{copies_numbered, new_many, new_numbered, none_lower, numbered_many, numbered_values}

-- ---- a list of values, cut into lists of n

abbrev cut_at : (n : ℕ) → List Value → (place : ℕ) → List Value
cut_at n values place = take n (drop (place * n) values)

abbrev cuts : (n : ℕ) → List Value → (many : ℕ) → List (List Value)
cuts n values zero = []
cuts n values (suc many) = cuts n values many ++ cut_at n values many ∷ []

cuts_many : (n : ℕ) (values : List Value) (many : ℕ) → length (cuts n values many) ≡ many
cuts_many n values zero = refl
cuts_many n values (suc many) = let rest = cuts_many n values many in omega (arith, length_push (cuts n values many) (cut_at n values many), rest)

cut_behind : (n : ℕ) (first rest : List Value) (place : ℕ) → length first ≡ n → cut_at n (first ++ rest) (suc place) ≡ cut_at n rest place
cut_behind n first rest place long =
    let number : suc place * n ≡ n + place * n = omega (arith, suc-mul place n) in
    ap (take n) (ap (λ k. drop k (first ++ rest)) number ∙ sym (drop-drop (place * n) n (first ++ rest)) ∙ ap (drop (place * n)) (drop_at first rest n long))

cut_first : (n : ℕ) (first rest : List Value) → length first ≡ n → cut_at n (first ++ rest) 0 ≡ first
cut_first n first rest long = ap (λ k. take n (drop k (first ++ rest))) (zero-mul n) ∙ take_at first rest n long

cuts_behind : (n : ℕ) (first rest : List Value) (many : ℕ) → length first ≡ n → cuts n (first ++ rest) (suc many) ≡ first ∷ cuts n rest many
cuts_behind n first rest zero long = ap (λ (w : List Value). w ∷ []) (cut_first n first rest long)
cuts_behind n first rest (suc many) long =
    let before = cuts_behind n first rest many long in
    let last = cut_behind n first rest many long in
    λ i. before i ++ last i ∷ []

abbrev IsLong : (n : ℕ) → List Value → Type 0
IsLong n values = length values ≡ n

cuts_all : (n : ℕ) (lists : List (List Value)) → AllByRecursion (IsLong n) lists → cuts n (flat_map (λ values. values) lists) (length lists) ≡ lists
cuts_all n [] long = refl
cuts_all n (first ∷ lists) long =
    cuts_behind n first (flat_map (λ values. values) lists) (length lists) long.0 ∙ ap (λ (l : List (List Value)). first ∷ l) (cuts_all n lists long.1)

all_long : (n : ℕ) (lists : List (List Value)) → AllByRecursion (IsLong n) lists → length (flat_map (λ values. values) lists) ≡ length lists * n
all_long n [] long = sym (zero-mul n)
all_long n (first ∷ lists) long =
    let rest = all_long n lists long.1 in
    length-append first (flat_map (λ values. values) lists) ∙ omega (arith, long.0, rest, suc-mul (length lists) n)

-- ---- a list with one item more

front_distinct : (xs : List (List Value)) (x : List Value) → HasNoRepeats (xs ++ x ∷ []) → HasNoRepeats xs
front_distinct [] x distinct = tt
front_distinct (y ∷ xs) x distinct = (λ there. distinct.0 (Contains-append_left xs (x ∷ []) y there), front_distinct xs x distinct.1)

distinct_push : (xs : List (List Value)) (x : List Value) → HasNoRepeats (xs ++ x ∷ []) ↔ (HasNoRepeats xs × (Contains xs x → ⊥))
distinct_push xs x = (λ h. (front_distinct xs x h, HasNoRepeats-middle xs [] x h), λ h. HasNoRepeats-push xs x h.0 h.1)

-- ---- the copies, under a valuation that binds those of the counted variables to the values in turn

map_terms : (v : Valuation) (xs : List VarId) → map (value_of_term v) (map Var xs) ≡ map (value_at v) xs
map_terms v [] = refl
map_terms v (x ∷ xs) = ap (λ l. value_at v x ∷ l) (map_terms v xs)

module _ (at next : ℕ) (counted : List VarId) (body : Formula) (trace : List Step) (i : ℕ) (v : Valuation) (above : (x : VarId) → IsFree x body → x.0 < next) where
  abbrev Good : List Value → Type 0
  Good values = (length values ≡ length counted) × Sat trace i (with_values counted values v) body

  module _ (most : ℕ) (values : List Value) (long : length values ≡ most * length counted) where
    abbrev bound : Valuation
    bound = with_values (counted_copies next counted most) values v

    abbrev cut : ℕ → List Value
    cut copy = cut_at (length counted) values copy

    cut_long : (copy : ℕ) → copy < most → length (cut copy) ≡ length counted
    cut_long copy within =
        let room : copy * length counted + length counted ≤ most * length counted = row_fits copy (length counted) most (length counted) within (omega arith) in
        length-take-le (length counted) (drop (copy * length counted) values) (omega (arith, length-drop (copy * length counted) values, long))

    copy_values : (copy : ℕ) → copy < most → map (value_at bound) (counted_copy next counted copy) ≡ map Some (cut copy)
    copy_values copy within =
        let room : copy * length counted + length counted ≤ most * length counted = row_fits copy (length counted) most (length counted) within (omega arith) in
        let same : counted_copies next counted most ≡ numbered_variables next (length values) = copies_numbered next counted most ∙ ap (numbered_variables next) (sym long) in
        ap (λ (xs : List VarId). map (value_at (with_values xs values v)) (counted_copy next counted copy)) same
        ∙ ap (map (value_at (with_values (numbered_variables next (length values)) values v))) (new_numbered (next + copy * length counted) counted)
        ∙ numbered_values next values v (copy * length counted) (length counted) (omega (arith, long, room))

    kept : (x : VarId) → x.0 < next → value_at bound x ≡ value_at v x
    kept x lower = value_at-with_outside (counted_copies next counted most) values v x (λ there.
        none_lower x next (most * length counted) lower (subst (λ (xs : List VarId). Contains xs x) (copies_numbered next counted most) there))

    body_holds : (own copy : ℕ) → copy < most → next + most * length counted ≤ own
        → Sat trace i bound (body_copy at next own counted body copy) ↔ Sat trace i (with_values counted (cut copy) v) body
    body_holds own copy within over =
        let room : copy * length counted + length counted ≤ most * length counted = row_fits copy (length counted) most (length counted) within (omega arith) in
        let xs = counted_copy next counted copy in
        let first = own + copy * bound_count body in
        let many : length (map Var xs) ≡ length counted = length-map xs Var ∙ new_many (next + copy * length counted) counted in
        copied_same at trace body (with_terms counted (map Var xs) Var) first i bound (with_values counted (cut copy) v) (record {
          same = λ x free. terms_value counted (map Var xs) (cut copy) Var bound v x many (map_terms bound xs ∙ copy_values copy within) (λ out. kept x (above x free));
          below = λ x free. terms_below first counted (map Var xs) Var x many
              (all_below_later (next + copy * length counted + length counted) first (map Var xs) (omega (arith, room, over)) (new_below (next + copy * length counted) counted))
              (λ out. let lower : x.0 < next = above x free in omega (arith, over));
        })

    differ_holds : (earlier copy : ℕ) → earlier < most → copy < most → Sat trace i bound (copies_differ at next counted earlier copy) ↔ (cut earlier ≡ cut copy → ⊥)
    differ_holds earlier copy one other =
        let xs = counted_copy next counted earlier in
        let ys = counted_copy next counted copy in
        let pairs = equal_pairs at xs ys in
        denials (Sat trace i bound (all_of at pairs)) (cut earlier ≡ cut copy)
        (iff_then (all_of_holds at trace i bound pairs)
        (pairs_hold at trace i bound xs ys (cut earlier) (cut copy) (copy_values earlier one) (copy_values copy other)
        (new_many (next + copy * length counted) counted ∙ sym (new_many (next + earlier * length counted) counted))))

    differs_hold : (copy earlier : ℕ) → copy < most → earlier ≤ copy
        → AllByRecursion (Sat trace i bound) (differs_from at next counted copy earlier) ↔ (Contains (cuts (length counted) values earlier) (cut copy) → ⊥)
    differs_hold copy zero within upto = (λ all there. none_in_nil (cut copy) there, λ none. tt)
    differs_hold copy (suc earlier) within upto =
        let lists = cuts (length counted) values earlier in
        let last = copies_differ at next counted earlier copy in
        let front = differs_from at next counted copy earlier in
        let before = differs_hold copy earlier within (omega arith) in
        let here_too = differ_holds earlier copy (omega arith) within in (
          λ all there. let parts = AllByRecursion-of_append (Sat trace i bound) front (last ∷ []) all in
              ⊎_elim (λ one. before.0 parts.0 one) (λ one. here_too.0 parts.1.0 (only_item (cut earlier) (cut copy) one)) (Contains-append lists (cut earlier ∷ []) (cut copy) there),
          λ none. AllByRecursion-append (Sat trace i bound) front (last ∷ [])
              (before.1 (λ there. none (Contains-append_left lists (cut earlier ∷ []) (cut copy) there)))
              (here_too.1 (λ same. none (Contains-append_right lists (cut earlier ∷ []) (cut copy) (0, omega arith, same))), tt),
        )

    copies_hold : (own copies : ℕ) → copies ≤ most → next + most * length counted ≤ own
        → AllByRecursion (Sat trace i bound) (different_copies at next own counted body copies)
        ↔ (HasNoRepeats (cuts (length counted) values copies) × AllByRecursion Good (cuts (length counted) values copies))
    copies_hold own zero upto over = (λ all. (tt, tt), λ both. tt)
    copies_hold own (suc copies) upto over =
        let lists = cuts (length counted) values copies in
        let front = different_copies at next own counted body copies in
        let one = body_copy at next own counted body copies in
        let others = differs_from at next counted copies copies in
        let within : copies < most = omega arith in
        let before = copies_hold own copies (omega arith) over in
        let body_too = body_holds own copies within over in
        let differs = differs_hold copies copies within (omega arith) in
        let distinct = distinct_push lists (cut copies) in (
          λ all. let parts = AllByRecursion-of_append (Sat trace i bound) front (one ∷ others) all in
              let rest = before.0 parts.0 in
              (distinct.1 (rest.0, differs.0 parts.1.1), AllByRecursion-append Good lists (cut copies ∷ []) rest.1 ((cut_long copies within, body_too.0 parts.1.0), tt)),
          λ both. let apart = distinct.0 both.0 in
              let good = AllByRecursion-of_append Good lists (cut copies ∷ []) both.1 in
              AllByRecursion-append (Sat trace i bound) front (one ∷ others) (before.1 (apart.0, good.0)) (body_too.1 good.1.0.1, differs.1 apart.1),
        )

  copies_long : (copies : ℕ) → length (counted_copies next counted copies) ≡ copies * length counted
  copies_long copies = ap length (copies_numbered next counted copies) ∙ numbered_many next (copies * length counted)

  good_long : (lists : List (List Value)) → AllByRecursion Good lists → AllByRecursion (IsLong (length counted)) lists
  good_long [] good = tt
  good_long (first ∷ lists) good = (good.0.0, good_long lists good.1)

  pub at_least_holds : (k : ℕ) → Sat trace i v (at_least at next counted body k) ↔ HoldsForDifferent k (length counted) (λ values. Sat trace i (with_values counted values v) body)
  at_least_holds k =
      let own = next + k * length counted in
      let parts = different_copies at next own counted body k in (
        λ some none. some (λ found.
            let long : length found.0 ≡ k * length counted = found.1 ∙ copies_long k in
            let all = (all_of_holds at trace i (bound k found.0 long) parts).0 found.2 in
            let both = (copies_hold k found.0 long own k (omega arith) (omega arith)).0 all in
            none (cuts (length counted) found.0 k, cuts_many (length counted) found.0 k, both.0, both.1)),
        λ some none. some (λ found.
            let lists = found.0 in
            let values = flat_map (λ values. values) lists in
            let width = good_long lists found.3 in
            let long : length values ≡ k * length counted = all_long (length counted) lists width ∙ ap (λ n. n * length counted) found.1 in
            let same : cuts (length counted) values k ≡ lists = ap (cuts (length counted) values) (sym found.1) ∙ cuts_all (length counted) lists width in
            let both : HasNoRepeats (cuts (length counted) values k) × AllByRecursion Good (cuts (length counted) values k) =
            subst (λ ls. HasNoRepeats ls × AllByRecursion Good ls) (sym same) (found.2, found.3) in
            let all = (copies_hold k values long own k (omega arith) (omega arith)).1 both in
            none (values, long ∙ sym (copies_long k), (all_of_holds at trace i (bound k values long) parts).1 all)),
      )

pub counts_hold : CountsHoldAsSaid
counts_hold kinds.AtLeast k counted body next at trace i v above = at_least_holds at next counted body trace i v above k
counts_hold kinds.AtMost k counted body next at trace i v above =
    denials (Sat trace i v (at_least at next counted body (k + 1)))
    (HoldsForDifferent (k + 1) (length counted) (λ values. Sat trace i (with_values counted values v) body))
    (at_least_holds at next counted body trace i v above (k + 1))
counts_hold kinds.Exactly k counted body next at trace i v above =
    let later = after_copies next counted body k in
    let lower = at_least_holds at next counted body trace i v above k in
    let upper = denials (Sat trace i v (at_least at later counted body (k + 1)))
    (HoldsForDifferent (k + 1) (length counted) (λ values. Sat trace i (with_values counted values v) body))
    (at_least_holds at later counted body trace i v (λ x free. let below : x.0 < next = above x free in omega arith) (k + 1)) in
    (λ s. (lower.0 s.0, upper.0 s.1), λ s. (lower.1 s.0, upper.1 s.1))
