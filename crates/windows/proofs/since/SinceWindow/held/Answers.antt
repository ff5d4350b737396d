use Rattle.windows.proofs.Vocabulary.{◌≡◌, ap, arith, length, rules, count_pairs}
use Rattle.std.proofs.lemmas.Grind.{common_steps}
use Rattle.std.specs.Prelude.{max}
use Rattle.windows.proofs.PlaceLemmas.{count_kept, kept_short}
use Rattle.windows.proofs.since.SinceWindow.held.Goals as goal

pub returns-clause-least : goal.returns-clause-least
returns-clause-least c =
    let larger : c.max.result ≡ max c.len.result c.len-2.result = first_of (search rules, grind (arith, common_steps)) in
    omega (arith, larger, kept_short c.self.inside.entries.entries, ap (λ w. length w.kept) c.self.view_is, c.len.ensures.len)

pub returns-clause-most : goal.returns-clause-most
returns-clause-most c =
    let larger : c.max.result ≡ max c.len.result c.len-2.result = first_of (search rules, grind (arith, common_steps)) in
    omega (
      arith,
      larger,
      count_kept c.self.inside.entries.entries,
      ap (λ w. count_pairs w.kept) c.self.view_is,
      c.self.invariant.compact.rows,
      c.self.invariant.compact.dues,
      c.len.ensures.len,
      c.len-2.ensures,
    )
