use Rattle.enf_data.specs.machine.SeededHashes.{seeded_hasher}
use Rattle.enf_data.proofs.seeds.SeedBuildHasher.build_hasher.Goals as goal

pub returns : goal.returns
unfolding seeded_hasher
returns c = rw (c.rotate_left.ensures)
