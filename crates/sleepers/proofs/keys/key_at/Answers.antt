use Rattle.sleepers.specs.machine.PatternKeys.{pattern_key}
use Rattle.sleepers.proofs.keys.key_at.Goals as goal

pub returns : goal.returns
unfolding pattern_key
returns c = cc (c.build_hasher-state.ensures, c.write_u32.ensures, c.feed_fixed.ensures, c.finish.ensures)
