use Rattle.monitorable_guard.proofs.Vocabulary.{◌≡◌, ℕ, zero, suc, ◌+◌, ◌++◌, [], ◌∷◌, ap, sym, ◌∙◌, arith}
use Rattle.std.proofs.Common.{add-one}
use Rattle.std.specs.List.{range_with_len}
use Rattle.monitorable_guard.proofs.asked.numbers_from.Goals as goal

range_more : (first count : ℕ) → range_with_len first (suc count) ≡ range_with_len first count ++ (first + count) ∷ []
range_more first zero = let same : first ≡ first + 0 = omega arith in ap (λ n. n ∷ []) same
range_more first (suc count) =
    let same : (first + 1) + count ≡ first + suc count = omega arith in
    ap (λ l. first ∷ l) (range_more (first + 1) count ∙ ap (λ n. range_with_len (first + 1) count ++ n ∷ []) same)

pub loop-place-preserved : goal.loop-place-preserved
loop-place-preserved c =
    let first = c.args.first in
    let place = c.loop-place.place in
    c.in_ok-push.ensures.items ∙ ap (λ l. l ++ (first + place) ∷ []) c.loop-place.invariant ∙ sym (range_more first place) ∙ ap (range_with_len first) (sym (add-one place))

pub returns : goal.returns
returns c =
    let all : c.loop-place.place ≡ c.args.count = omega arith in
    c.loop-place.invariant ∙ ap (range_with_len c.args.first) all
