use Rattle.windows.proofs.Vocabulary.{◌≡◌, ◌<◌, ◌≤◌, arith, get_or, length, refl, ltb-true}
use Rattle.std.proofs.lemmas.Bool.{ltb-false}
use Rattle.windows.proofs.TimeLemmas.{first_at}
use Rattle.windows.proofs.times.is_ended.Goals as goal

pub returns-in-Some-clause-some : goal.returns-in-Some-clause-some
returns-in-Some-clause-some c = λ yes.
    let there : 0 < c.args.times.now.len = c.in-Some.ensures.variant.0 refl in
    let some : 0 < length c.args.times.now.items = omega (arith, there, c.args.times.now.ok.0) in
    let far : c.args.high < c.saturating_sub.result = ltb-true _ _ yes in (
      some,
      λ d. let at : get_or c.args.times.now.items 0 d ≡ c.in-Some.first.now = first_at c.args.times.now.items c.in-Some.first.now d some c.in-Some.ensures.lookup in
          omega (arith, far, at, c.saturating_sub.ensures),
    )

pub returns-in-Some-clause-live : goal.returns-in-Some-clause-live
returns-in-Some-clause-live c = λ no some d.
    let near : c.saturating_sub.result ≤ c.args.high = ltb-false _ _ no in
    let at : get_or c.args.times.now.items 0 d ≡ c.in-Some.first.now = first_at c.args.times.now.items c.in-Some.first.now d some c.in-Some.ensures.lookup in
    omega (arith, near, at, c.saturating_sub.ensures)
