use Rattle.enf_cases.proofs.running.answer_step.Goals as goal

pub tables-requires : goal.tables-requires
tables-requires c = c.requires.stands.up_to c.args.step.now.time c.requires.from
