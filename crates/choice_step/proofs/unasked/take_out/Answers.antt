use Rattle.std.proofs.Common.{rules}
use Rattle.std.specs.Prelude.{nat_eq, not}
use Rattle.std.proofs.lemmas.Fn.{filter_same}
use Rattle.choice_step.proofs.unasked.take_out.Goals as goal

pub returns : goal.returns
returns c =
    filter_same _ (λ other. not (nat_eq other c.args.rule)) _ (λ other b f call. search rules) c.args.rules.now.items c.retain.new.self.items c.retain.ensures.filtered
