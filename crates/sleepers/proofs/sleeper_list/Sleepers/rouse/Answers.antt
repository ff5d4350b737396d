use Rattle.sleepers.proofs.Vocabulary.{subst, sym, on_ok_weaker, held, shown, IsContainedIn}
use Rattle.sleepers.specs.machine.Agendas.{IsRousedOf, Rouses}
use Rattle.sleepers.proofs.AgendaLemmas.{roused_among, roused_in_order, roused_own}
use Rattle.sleepers.proofs.sleeper_list.Sleepers.rouse.Goals as goal

pub put_each-requires : goal.put_each-requires
put_each-requires g c =
    let entries = held c.self.inside.groups in
    let before = c.args.agenda.now in
    let some = shown c.as_slice.result.now in
    let is = subst (λ l. IsRousedOf c.args.event.now entries (shown l)) (sym c.as_slice.ensures.value) c.in_ok-roused.ensures in
    let within = subst (λ s. IsContainedIn before s.entries) (sym c.self.view_is) c.requires in
    roused_own c.args.event.now entries before some c.self.invariant.apart is within

pub returns-clause-ok : goal.returns-clause-ok
returns-clause-ok g c =
    let entries = held c.self.inside.groups in
    let before = c.args.agenda.now in
    let after = c.put_each.new.self in
    let some = shown c.as_slice.result.now in
    let is = subst (λ l. IsRousedOf c.args.event.now entries (shown l)) (sym c.as_slice.ensures.value) c.in_ok-roused.ensures in
    let within = subst (λ s. IsContainedIn before s.entries) (sym c.self.view_is) c.requires in
    on_ok_weaker c.put_each.result
    (λ has. subst (λ s. Rouses c.args.event.now s.entries before after) c.self.view_is
    (roused_in_order c.args.event.now entries before some c.self.invariant.apart is within after c.put_each.ensures.among has c.put_each.ensures.kept)) c.put_each.ensures.has

pub returns-clause-among : goal.returns-clause-among
returns-clause-among g c =
    let entries = held c.self.inside.groups in
    let before = c.args.agenda.now in
    let after = c.put_each.new.self in
    let some = shown c.as_slice.result.now in
    let is = subst (λ l. IsRousedOf c.args.event.now entries (shown l)) (sym c.as_slice.ensures.value) c.in_ok-roused.ensures in
    let within = subst (λ s. IsContainedIn before s.entries) (sym c.self.view_is) c.requires in
    subst (λ s. IsContainedIn after s.entries) c.self.view_is
    (roused_among c.args.event.now entries before some c.self.invariant.apart is within after c.put_each.ensures.among)
