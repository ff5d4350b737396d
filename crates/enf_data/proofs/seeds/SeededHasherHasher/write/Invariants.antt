use Rattle.std.specs.Prelude.{◌≡◌, ◌-◌, ◌/◌, ◌%◌, ◌<◌}
use Rattle.enf_data.specs.machine.SeededHashes.{seeded_blocks}
use Rattle.enf_data.proofs.seeds.SeededHasherHasher.write.Given as goal

abbrev pub invariant-loop-at : goal.invariant-loop-at
invariant-loop-at l =
    (l.at % 16 ≡ 0) × (l.at < l.len) × (l.state ≡ seeded_blocks l.self.key l.bytes l.initial.state (l.at / 16))

abbrev pub decreases-loop-at : goal.decreases-loop-at
decreases-loop-at l = l.len - l.at
