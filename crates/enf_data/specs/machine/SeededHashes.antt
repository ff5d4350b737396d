-- What values are hashed to from a seed on. No answer depends on it.
use Rattle.std.specs.Prelude.{ℕ, zero, suc, ◌+◌, ◌-◌, ◌*◌, ◌/◌, ◌%◌, ◌^◌, List, length, if◌then◌else◌, nat_le, bit_xor}
use Rattle.std.specs.Int.{w64, rotate_left}
use Rattle.std.specs.Hash.FoldHasher.{folded_multiply, read_short, read_u64}
use Rattle.enf_data.specs.declared.seeds.Seed.{Seed}
use Rattle.enf_data.specs.declared.seeds.SeededHasher.{SeededHasher}

-- the hasher that has hashed nothing yet
unfoldable pub seeded_hasher : Seed → SeededHasher
seeded_hasher seed = record {
  state = bit_xor 0x243f_6a88_85a3_08d3 seed.0;
  key = bit_xor 0x9e37_79b9_7f4a_7c15 (rotate_left w64 seed.0 32);
}

-- the state after the words at i and at j
abbrev pub seeded_mix : (key : ℕ) → List ℕ → (state i j : ℕ) → ℕ
seeded_mix key bytes state i j =
    folded_multiply (bit_xor (read_u64 bytes i) state) (bit_xor (read_u64 bytes j) key)

-- the state after the first so many blocks of 16 bytes
unfoldable pub seeded_blocks : (key : ℕ) → List ℕ → (state count : ℕ) → ℕ
seeded_blocks key bytes state zero = state
seeded_blocks key bytes state (suc count) =
    seeded_mix key bytes (seeded_blocks key bytes state count) (16 * count) (16 * count + 8)

-- the hasher after these bytes: where there are more than 8, the last 16 are the last block
unfoldable pub seeded_write : SeededHasher → List ℕ → SeededHasher
seeded_write h bytes =
    let many = length bytes in
    let short = folded_multiply (bit_xor h.state (read_short bytes)) (bit_xor h.key (2 * many)) in
    let blocks = seeded_blocks h.key bytes ((h.state + many) % 2 ^ 64) ((many - 1) / 16) in
    let long = seeded_mix h.key bytes blocks (many - 16) (many - 8) in
    record { state = if nat_le many 8 then short else long; key = h.key }
