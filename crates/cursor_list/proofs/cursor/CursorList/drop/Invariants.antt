use Rattle.std.proofs.Common.{◌≡◌, [], length}
use Rattle.cursor_list.proofs.cursor.CursorList.drop.Given as goal

abbrev pub invariant-loop-item : goal.invariant-loop-item
invariant-loop-item g l = l.self.before ≡ []

abbrev pub decreases-loop-item : goal.decreases-loop-item
decreases-loop-item g l = length l.self.after
