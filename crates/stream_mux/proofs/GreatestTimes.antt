-- The greatest time of items.
use Rattle.log_stream.specs.declared.items.LogItem.{LogItem}
use Rattle.std.proofs.Common.{ap, arith, sym, ◌∙◌}
use Rattle.std.proofs.lemmas.List.{take_more}
use Rattle.std.specs.Prelude.{ℕ, List, [], ◌∷◌, ◌++◌, ◌≡◌, ◌+◌, ◌<◌, get_or, length, max, take}
use Rattle.stream_mux.specs.meaning.MergedStreams.{greatest_time, shown_time}

pub greatest_append : (xs ys : List LogItem) → greatest_time (xs ++ ys) ≡ max (greatest_time xs) (greatest_time ys)
greatest_append [] ys = omega arith
greatest_append (x ∷ xs) ys = let rest = greatest_append xs ys in omega (arith, rest)

pub greatest_more : (greatest : ℕ) (xs : List LogItem) (i : ℕ) (x : LogItem) → i < length xs → x ≡ get_or xs i x
    → max (max greatest (greatest_time (take i xs))) (shown_time x) ≡ max greatest (greatest_time (take (i + 1) xs))
greatest_more greatest xs i x within is =
    let more : greatest_time (take (i + 1) xs) ≡ max (greatest_time (take i xs)) (greatest_time (x ∷ [])) =
    ap greatest_time (take_more xs i x within ∙ ap (λ y. take i xs ++ y ∷ []) (sym is)) ∙ greatest_append (take i xs) (x ∷ []) in
    omega (arith, more)
