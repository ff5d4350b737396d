-- The names are those that the bytes spell.
use Rattle.save_codec.proofs.Vocabulary.{◌≡◌, ◌∙◌, [], List, Ok, map, ap, sym, subst, AllByRecursion, NameEntry, Plan, plan_of, IsScopedPlan, all_operators, numbered_operators, numbered_operator}
use Rattle.save_codec.proofs.Vocabulary.{WindowShape, KnowRules, KnowWindows}
use Rattle.save_codec.proofs.resuming.judge_of.Goals as goal

pub returns : goal.returns
returns c = λ s is.
    let both : Ok c.in-Ok.signature ≡ Ok s.entries = c.in-Ok.ensures.only (Ok s.entries) is.spells in
    let entries : c.in-Ok.signature ≡ s.entries = cc both in
    let plans : map plan_of c.args.plans.now ≡ s.plans = sym is.plans_are in
    let rules = c.in_ok-rules.rules.items in
    let shapes = c.in_ok-shapes.shapes.items in
    let windows = c.in_ok-windows.windows.items in
    record {
      plans = is.plans_are;
      scoped = subst (AllByRecursion (λ plan. IsScopedPlan plan [])) plans c.requires.scoped;
      rules = subst (λ (l : List Plan). KnowRules s.entries l rules) plans (subst (λ (l : List NameEntry). KnowRules l (map plan_of c.args.plans.now) rules) entries c.in_ok-rules.ensures);
      listed = c.in_ok-shapes.ensures.operators ∙ ap (numbered_operators 0) (sym is.guards_are);
      operators = c.in_ok-shapes.ensures.windows ∙ ap all_operators (sym is.guards_are);
      columns = c.in_ok-shapes.ensures.columns;
      windows = subst (λ (l : List Plan). KnowWindows s.entries l (map numbered_operator shapes) windows) plans
          (subst (λ (l : List NameEntry). KnowWindows l (map plan_of c.args.plans.now) (map numbered_operator shapes) windows) entries
          (subst (λ (l : List WindowShape). KnowWindows c.in-Ok.signature (map plan_of c.args.plans.now) (map numbered_operator l) windows) c.as_slice.ensures.value c.in_ok-windows.ensures));
    }
