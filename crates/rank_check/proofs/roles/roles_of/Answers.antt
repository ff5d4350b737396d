use Rattle.rank_check.proofs.Vocabulary.{◌≡◌, ◌∷◌, [], ◌↔◌, List, IsTrue, map, subst, arith, ◌∙◌, Contains, inl, inr, length-append, flat_map, NameId, Plan, caused_below, suppressed_below, IsCaused}
use Rattle.rank_check.proofs.Vocabulary.{IsSuppressed, plan_of}
use Rattle.rank_check.proofs.RoleLemmas.{read, has_role, first_clash, clear_more, roles_more, roles_of_all, nothing_clashes, Tells}
use Rattle.rank_check.proofs.roles.roles_of.Goals as goal

pub marks_of-requires : goal.marks_of-requires
marks_of-requires c name there =
    let same : c.as_slice.result.now ≡ flat_map caused_below (map plan_of c.args.plans.now) = c.as_slice.ensures.value ∙ c.in_ok-causes.ensures in
    c.requires name (inl (subst (λ (l : List NameId). Contains l name) same there))

pub marks_of-requires-2 : goal.marks_of-requires-2
marks_of-requires-2 c name there =
    let same : c.as_slice-2.result.now ≡ flat_map suppressed_below (map plan_of c.args.plans.now) = c.as_slice-2.ensures.value ∙ c.in_ok-suppresses.ensures in
    c.requires name (inr (subst (λ (l : List NameId). Contains l name) same there))

pub returns-in_default-clause-clash : goal.returns-in_default-clause-clash
returns-in_default-clause-clash c =
    let plans : List Plan = map plan_of c.args.plans.now in
    let causes : c.as_slice.result.now ≡ flat_map caused_below plans = c.as_slice.ensures.value ∙ c.in_ok-causes.ensures in
    let suppresses : c.as_slice-2.result.now ≡ flat_map suppressed_below plans = c.as_slice-2.ensures.value ∙ c.in_ok-suppresses.ensures in
    let a : IsTrue c.index.result.now ↔ IsCaused plans (record { 0 = c.loop-number.number }) =
    read c.in_ok-causes-2.causes.items c.loop-number.number c.index.result.now (IsCaused plans) (omega (arith, c.loop-number-test.true, c.in_ok-causes-2.ensures.count)) c.index.ensures
    (subst (λ (l : List NameId). Tells c.in_ok-causes-2.causes.items (Contains l)) causes c.in_ok-causes-2.ensures.marks) in
    let b : IsTrue c.index-in-loop-number.result.now ↔ IsSuppressed plans (record { 0 = c.loop-number.number }) =
    read c.in_ok-suppresses-2.suppresses.items c.loop-number.number c.index-in-loop-number.result.now (IsSuppressed plans)
    (omega (arith, c.loop-number-test.true, c.in_ok-suppresses-2.ensures.count)) c.index-in-loop-number.ensures
    (subst (λ (l : List NameId). Tells c.in_ok-suppresses-2.suppresses.items (Contains l)) suppresses c.in_ok-suppresses-2.ensures.marks) in
    first_clash plans c.loop-number.number c.index.result.now c.index-in-loop-number.result.now c.loop-number.invariant.clear a b c.in_default.ensures

pub loop-number-preserved : goal.loop-number-preserved
loop-number-preserved c =
    let plans : List Plan = map plan_of c.args.plans.now in
    let causes : c.as_slice.result.now ≡ flat_map caused_below plans = c.as_slice.ensures.value ∙ c.in_ok-causes.ensures in
    let suppresses : c.as_slice-2.result.now ≡ flat_map suppressed_below plans = c.as_slice-2.ensures.value ∙ c.in_ok-suppresses.ensures in
    let a : IsTrue c.index.result.now ↔ IsCaused plans (record { 0 = c.loop-number.number }) =
    read c.in_ok-causes-2.causes.items c.loop-number.number c.index.result.now (IsCaused plans) (omega (arith, c.loop-number-test.true, c.in_ok-causes-2.ensures.count)) c.index.ensures
    (subst (λ (l : List NameId). Tells c.in_ok-causes-2.causes.items (Contains l)) causes c.in_ok-causes-2.ensures.marks) in
    let b : IsTrue c.index-in-loop-number.result.now ↔ IsSuppressed plans (record { 0 = c.loop-number.number }) =
    read c.in_ok-suppresses-2.suppresses.items c.loop-number.number c.index-in-loop-number.result.now (IsSuppressed plans)
    (omega (arith, c.loop-number-test.true, c.in_ok-suppresses-2.ensures.count)) c.index-in-loop-number.ensures
    (subst (λ (l : List NameId). Tells c.in_ok-suppresses-2.suppresses.items (Contains l)) suppresses c.in_ok-suppresses-2.ensures.marks) in
    let own = has_role plans (record { 0 = c.loop-number.number }) c.index.result.now c.index-in-loop-number.result.now c.in-Some.role a b c.in-Some.ensures in
    record {
      count = rw c.in_ok-push.ensures.items (omega (arith, length-append c.loop-number.roles.items (c.in-Some.role ∷ []), c.loop-number.invariant.count));
      roles = rw c.in_ok-push.ensures.items (roles_more plans c.loop-number.roles.items c.in-Some.role c.loop-number.number c.loop-number.invariant.count c.loop-number.invariant.roles own.0);
      clear = clear_more plans c.loop-number.number c.loop-number.invariant.clear own.1;
    }

pub returns-clause-clear : goal.returns-clause-clear
returns-clause-clear c =
    nothing_clashes (map plan_of c.args.plans.now) c.args.names c.requires (λ name below. c.loop-number.invariant.clear name (omega (arith, below, c.loop-number-test.false)))

pub returns-clause-roles : goal.returns-clause-roles
returns-clause-roles c =
    let all : c.loop-number.number ≡ c.args.names = omega (arith, c.loop-number.auto.number-end, c.loop-number-test.false) in
    roles_of_all (map plan_of c.args.plans.now) c.loop-number.roles.items c.args.names (c.loop-number.invariant.count ∙ all) c.requires
    (λ name below. c.loop-number.invariant.roles name (omega (arith, below, c.loop-number-test.false)))
