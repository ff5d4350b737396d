use Rattle.trace_audit.proofs.Vocabulary.{◌∷◌, List, sym, subst, refl, arith, here, later, AllByRecursion-contains, Contains, AreAmongRules, guards_at, moment_of, ResidualCanGoOn, OpenRule}
use Rattle.trace_audit.proofs.JudgementLemmas.{FollowsOn, can_among, follows_all, follows_first, follows_next, none_left}
use Rattle.trace_audit.proofs.followed_rules.follow_each.Goals as goal

pub loop-item-init : goal.loop-item-init
loop-item-init c =
    let m = moment_of c.args.now.now in
    let asked = c.args.followed.now.asked in
    let broken = c.args.followed.now.broken in
    let takes = c.in_ok-awake.ensures.ok in
    let all = c.into_iter-item-iterator.ensures.into_iter_gives.0 in
    let guards = guards_at c.args.now.now.tables.now in (
      tt,
      tt,
      subst (λ (l : List OpenRule). FollowsOn m asked broken l (record { asked = c.take_awake.new.self; broken = broken })) (sym all)
          (follows_first m asked broken c.in_ok-awake.awake.items (record { asked = c.take_awake.new.self; broken = broken }) c.requires.can takes refl),
      subst (AreAmongRules asked) (sym all) takes.awake_among,
      can_among guards asked c.take_awake.new.self takes.left_among c.requires.can,
    )

pub follow-requires-clause-can : goal.follow-requires-clause-can
follow-requires-clause-can c =
    AllByRecursion-contains (λ (item : OpenRule). ResidualCanGoOn (guards_at c.args.now.now.tables.now) item.rest) c.args.followed.now.asked c.in-Some.item c.requires.can
    (c.loop-item.invariant.3 c.in-Some.item
    (subst (λ (l : List OpenRule). Contains l c.in-Some.item) (sym c.in-Some.ensures.steps.0) (here c.in-Some.item c.next.new.self.rest.items)))

pub loop-item-preserved : goal.loop-item-preserved
loop-item-preserved c =
    let m = moment_of c.args.now.now in
    let asked = c.args.followed.now.asked in
    let item = c.in-Some.item in
    let left = c.next.new.self.rest.items in
    let among : AreAmongRules asked (item ∷ left) = subst (AreAmongRules asked) c.in-Some.ensures.steps.0 c.loop-item.invariant.3 in (
      tt,
      tt,
      follows_next m asked c.args.followed.now.broken item left c.loop-item.followed c.follow.new.followed (among item (here item left))
          (subst (λ (l : List OpenRule). FollowsOn m asked c.args.followed.now.broken l c.loop-item.followed) c.in-Some.ensures.steps.0 c.loop-item.invariant.2)
          c.in_ok-follow.ensures.follows,
      (λ other there. among other (later other item left there)),
      c.follow.ensures.can,
    )

pub returns-in_err-awake-clause-can : goal.returns-in_err-awake-clause-can
returns-in_err-awake-clause-can c =
    can_among (guards_at c.args.now.now.tables.now) c.args.followed.now.asked c.take_awake.new.self c.take_awake.ensures.among c.requires.can

pub returns-clause-follows : goal.returns-clause-follows
returns-clause-follows c =
    let m = moment_of c.args.now.now in
    let none = none_left c.loop-item.item-iterator.rest.items (omega (arith, c.in-None.ensures.steps.0, c.loop-item.item-iterator.rest.ok.0)) in
    follows_all m c.args.followed.now.asked c.args.followed.now.broken c.loop-item.followed
    (subst (λ (l : List OpenRule). FollowsOn m c.args.followed.now.asked c.args.followed.now.broken l c.loop-item.followed) none c.loop-item.invariant.2)
