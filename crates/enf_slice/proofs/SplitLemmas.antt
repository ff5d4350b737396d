-- How many records there can be once a piece was fed.
use Rattle.std.proofs.Common.{◌≡◌, ◌+◌, ◌++◌, ℕ, List, length, length-append, ap, arith, Option}
use Rattle.log_stream.specs.declared.items.LogRefusal.{LogRefusal}
use Rattle.log_stream.specs.machine.LogReaders.{Reader, fed, fed_by}
use Rattle.log_split.specs.declared.splitting.Splitter.{Splitter}
use Rattle.log_split.specs.machine.Taking.{IsSplitting, most_records}

pub fed_most : (s s' : Splitter) (piece : List ℕ) → IsSplitting s → s' ≡ record s { reader = fed s.reader piece }
    → most_records s' ≡ most_records s + length piece
fed_most s s' piece h is =
    omega (
      arith,
      ap (λ (x : Splitter). x.accepted) is,
      ap (λ (x : Splitter). length x.reader.rest) is,
      ap (λ (refused : Option LogRefusal). length (fed_by refused s.reader piece).rest) h.going,
      length-append s.reader.rest piece,
    )
