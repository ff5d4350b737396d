use Rattle.windows.proofs.Vocabulary.{◌∙◌, Contains, arith, false≢true, none_in_nil, subst, sym, Decides-eqb}
use Rattle.windows.proofs.TimeLemmas.{latest_of, no_latest, some_latest}
use Rattle.windows.proofs.times.Times.ends_with.Goals as goal

pub returns-in-Some : goal.returns-in-Some
returns-in-Some c =
    let is = sym c.in-Some.is ∙ c.latest.ensures in
    let latest = latest_of c.args.now c.args.self.now c.in-Some.latest is c.requires in (
      λ same. subst (Contains c.args.self.now) ((Decides-eqb c.in-Some.latest c.args.now).0 same) (some_latest c.args.self.now c.in-Some.latest is).0,
      λ there. (Decides-eqb c.in-Some.latest c.args.now).1 (let no_later = latest.1 c.args.now there in omega (arith, latest.0, no_later)),
    )

pub returns-in-None : goal.returns-in-None
returns-in-None c = (
  λ no. absurd (false≢true no),
  λ there. absurd (none_in_nil c.args.now (subst (λ l. Contains l c.args.now) (no_latest c.args.self.now (sym c.latest.ensures ∙ c.in-None.is)) there)),
)
