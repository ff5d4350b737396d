use Rattle.count_guard.proofs.CopyMeaning.{copies_hold_alike}
use Rattle.count_guard.proofs.laws.copies.Goals as goal

pub returns : goal.returns
returns c = copies_hold_alike
