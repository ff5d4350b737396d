use Rattle.obligations.proofs.Vocabulary.{◌≡◌, sym, ap, eqb-true}
use Rattle.obligations.proofs.leaves.is_event.Goals as goal

pub returns-then-eq : goal.returns-then-eq
returns-then-eq c =
    let named : c.args.event.now.name ≡ c.args.name = ap (λ n. record { 0 = n }) (eqb-true c.args.event.now.name.0 c.args.name.0 (sym c.if-eq.ensures)) in
    (λ equal. (named, c.has_arguments.ensures.0 equal), λ it. c.has_arguments.ensures.1 it.1)
