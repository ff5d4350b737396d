use Rattle.enf_run.proofs.Vocabulary.{List, [], ℕ, ap, map, subst, sym, ◌∙◌, AllByRecursion, tree_in, plan_of, IsScopedPlan, typed_of, IsTextOfLines, lines_of, IsSaveRefusal, IsSettingOf, IsShortFile}
use Rattle.enf_run.proofs.Vocabulary.{typed_bounds}
use Rattle.plan_terms.specs.declared.plans.Plan.{Plan as StoredPlan}
use Rattle.enf_run.proofs.SavedStateLemmas.{same_guards}
use Rattle.enf_run.proofs.StartLemmas.{all_scoped}
use Rattle.enf_run.proofs.files.read_state.Goals as goal

pub resume-requires-clause-scoped : goal.resume-requires-clause-scoped
resume-requires-clause-scoped g c =
    let typed = c.args.typed.now in
    subst (λ (plans : List StoredPlan). AllByRecursion (λ plan. IsScopedPlan plan []) (map plan_of plans))
    (sym c.plans.ensures.plans) (all_scoped (typed_of typed).guards (typed_of typed).plans
    c.plans.ensures.formed.each)

pub returns-in-Ok-clause-held : goal.returns-in-Ok-clause-held
returns-in-Ok-clause-held g c entries spells =
    let typed = c.args.typed.now in
    let s = typed_bounds entries (typed_of typed) in
    let bytes = c.in-Some.bytes.items in
    let short : IsShortFile 268435456 (g.F.Files.seen c.args.files.now).contents c.args.name.now bytes = rw c.in-Some.is at c.in_ok-bytes.ensures.bytes in
    let setting : IsSettingOf c.args.sources.signature.now c.plans.result.now c.guards.result.now s =
    record { spells = spells; plans_are = ap (map plan_of) (sym c.plans.ensures.plans); guards_are = sym (same_guards typed.guards) ∙ ap (map tree_in) (sym c.guards.ensures.guards) } in (
      bytes,
      record {
        under = short.under;
        short = short.short;
        text = subst (λ (text : List ℕ). IsTextOfLines text c.args.sources.signature.now c.args.sources.policy.now (lines_of c.in-Ok.state)) c.deref.ensures.value c.in-Ok.ensures.text;
        keeps = c.in-Ok.ensures.bounds s setting;
      },
    )

pub returns-clause-ends : goal.returns-clause-ends
returns-clause-ends g c entries spells =
    let typed = c.args.typed.now in
    let s = typed_bounds entries (typed_of typed) in
    let bytes = c.in-Some.bytes.items in
    let short : IsShortFile 268435456 (g.F.Files.seen c.args.files.now).contents c.args.name.now bytes = rw c.in-Some.is at c.in_ok-bytes.ensures.bytes in
    let setting : IsSettingOf c.args.sources.signature.now c.plans.result.now c.guards.result.now s =
    record { spells = spells; plans_are = ap (map plan_of) (sym c.plans.ensures.plans); guards_are = sym (same_guards typed.guards) ∙ ap (map tree_in) (sym c.guards.ensures.guards) } in
    let refused = subst (λ (text : List ℕ). IsSaveRefusal s text c.args.sources.signature.now c.args.sources.policy.now c.in-Err.why) c.deref.ensures.value (c.in-Err.ensures.refused s setting) in (
      record {
        bytes = bytes;
        under = short.under;
        refused = c.in_ok-state_refusal_of-in-Err.ensures
            c.args.sources.signature.now c.args.sources.policy.now s bytes short.short refused;
      },
      c.in_ok-bytes.ensures.same,
    )
