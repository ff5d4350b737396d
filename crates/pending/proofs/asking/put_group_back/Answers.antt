use Rattle.pending.proofs.Vocabulary.{Contains, ◌++◌, ◌≡◌, ap, inl, inr, map, none_in_nil, plan_of, refl, shown, sym, subst, ◌∙◌}
use Rattle.std.specs.Option.{option_copied}
use Rattle.std.specs.Prelude.{slice_get}
use Rattle.pending.proofs.AskingLemmas.{alike, first_shown, none_shown}
use Rattle.sleepers.proofs.StepLemmas.{from_left}
use Rattle.sleepers.specs.machine.Agendas.{HaveOwnPlaces}
use Rattle.sleepers.specs.machine.NotedGroups.{IsContainedIn}
use Rattle.pending.proofs.asking.put_group_back.Goals as goal

-- a group of nobody
pub returns-in_default-clause-goes : goal.returns-in_default-clause-goes
returns-in_default-clause-goes c =
    let items = c.args.group.now.entries.items in
    let none = subst (λ o. option_copied o ≡ slice_get items 0) c.in_default.is (subst (λ l. option_copied c.first.result ≡ slice_get l 0) c.deref.ensures.value c.first.ensures.value) in
    inl ((λ x there. absurd (none_shown items none x there)), refl)

pub returns-in_default-clause-among : goal.returns-in_default-clause-among
returns-in_default-clause-among c x there = from_left c.args.agenda.now (shown c.args.group.now.entries.items) x there

-- nothing moves its node: the first tells of all
pub returns-then-stays_met-clause-goes : goal.returns-then-stays_met-clause-goes
returns-then-stays_met-clause-goes c =
    let items = c.args.group.now.entries.items in
    let first = c.in-Some.first.now.now in
    let first_is = subst (λ o. option_copied o ≡ slice_get items 0) c.in-Some.is (subst (λ l. option_copied c.first.result ≡ slice_get l 0) c.deref.ensures.value c.first.ensures.value) in
    inl (
      (λ x there. alike (map plan_of c.args.plans.now) c.args.kind c.args.name first.item x.item
          (c.requires.nodes first (first_shown items c.in-Some.first.now first_is) ∙ sym (c.requires.nodes x there)) (c.stays_met.ensures c.if-stays_met.true)),
      refl,
    )

pub returns-then-stays_met-clause-among : goal.returns-then-stays_met-clause-among
returns-then-stays_met-clause-among c x there = from_left c.args.agenda.now (shown c.args.group.now.entries.items) x there

pub put_each-requires : goal.put_each-requires
put_each-requires c = subst (λ l. HaveOwnPlaces (c.args.agenda.now ++ shown l)) (sym c.as_slice.ensures.value) c.requires.places

pub returns-in_err-put_each-clause-among : goal.returns-in_err-put_each-clause-among
returns-in_err-put_each-clause-among c =
    subst (λ l. IsContainedIn c.put_each.new.self (c.args.agenda.now ++ shown l)) c.as_slice.ensures.value c.put_each.ensures.among

pub returns-clause-among : goal.returns-clause-among
returns-clause-among c =
    subst (λ l. IsContainedIn c.put_each.new.self (c.args.agenda.now ++ shown l)) c.as_slice.ensures.value c.put_each.ensures.among

pub returns-clause-fewer : goal.returns-clause-fewer
returns-clause-fewer c x there = absurd (none_in_nil x (subst (λ l. Contains (shown l) x) c.clear.ensures.items there))

pub returns-clause-goes : goal.returns-clause-goes
returns-clause-goes c =
    inr (
      subst (λ l. IsContainedIn (shown l) c.put_each.new.self) c.as_slice.ensures.value c.in_ok-put_each.ensures.has,
      ap shown c.clear.ensures.items,
    )
