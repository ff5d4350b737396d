use Rattle.past_state.proofs.Vocabulary.{◌≡◌, ◌∙◌, ◌++◌, ◌∷◌, [], length, map, ap, sym, refl, append_assoc, arith, map-append, nil_from_length, kept_row}
use Rattle.std.proofs.lemmas.List.{append-nil}
use Rattle.past_state.proofs.kept_rows.push_rows.Goals as goal

pub loop-pair-init : goal.loop-pair-init
loop-pair-init c = (tt, tt, sym (append-nil c.args.out.now.items), refl)

pub loop-pair-preserved : goal.loop-pair-preserved
loop-pair-preserved c = (
  tt,
  tt,
  c.in_ok-push.ensures.items ∙ ap (λ l. l ++ kept_row c.args.window c.in-Some.pair ∷ []) c.loop-pair.invariant.2
      ∙ append_assoc c.args.out.now.items (map (kept_row c.args.window) c.loop-pair.yielded) (kept_row c.args.window c.in-Some.pair ∷ [])
      ∙ ap (λ l. c.args.out.now.items ++ l) (sym (map-append (kept_row c.args.window) c.loop-pair.yielded (c.in-Some.pair ∷ []))),
  c.loop-pair.invariant.3 ∙ ap (λ l. c.loop-pair.yielded ++ l) c.in-Some.ensures.steps.0 ∙ sym (append_assoc c.loop-pair.yielded (c.in-Some.pair ∷ []) c.next.new.self.rest.items),
)

pub returns : goal.returns
returns c =
    let none : length c.loop-pair.pair-iterator.rest.items ≡ 0 = omega (arith, c.loop-pair.pair-iterator.rest.ok.0, c.in-None.ensures.steps.0) in
    let all : c.loop-pair.yielded ≡ c.args.pairs.items =
    sym (append-nil c.loop-pair.yielded) ∙ ap (λ l. c.loop-pair.yielded ++ l) (sym (nil_from_length c.loop-pair.pair-iterator.rest.items none))
    ∙ sym c.loop-pair.invariant.3 ∙ c.into_iter-pair-iterator.ensures.into_iter_gives.0 in
    c.loop-pair.invariant.2 ∙ ap (λ l. c.args.out.now.items ++ map (kept_row c.args.window) l) all
