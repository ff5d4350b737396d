-- One more item was printed.
use Rattle.save_codec.proofs.Vocabulary.{◌≡◌, ◌+◌, ◌<◌, ℕ, List, All, get_or, length, take, All-push, All-same}
use Rattle.save_codec.proofs.KnowLemmas.{take_item}

pub all_on : {X : Type 0} (P : X → Type 0) (xs : List X) (i : ℕ) (x : X) → i < length xs → x ≡ get_or xs i x → All P (take i xs) → P x → All P (take (i + 1) xs)
all_on P xs i x within is so_far here = All-same P _ _ (take_item xs i x within is) (All-push P (take i xs) x so_far here)
