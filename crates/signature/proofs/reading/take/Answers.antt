use Rattle.signature.proofs.reading.take.Goals as goal

pub returns-in-Name : goal.returns-in-Name
returns-in-Name c = rw c.in-Name.is (c.take_open.ensures c.args.signature.now)

pub returns-in-Open : goal.returns-in-Open
returns-in-Open c = rw c.in-Open.is (c.take_first_sort.ensures c.args.signature.now)

pub returns-in-Sorts : goal.returns-in-Sorts
returns-in-Sorts c = rw c.in-Sorts.is (c.take_comma.ensures c.args.signature.now)

pub returns-in-Comma : goal.returns-in-Comma
returns-in-Comma c = rw c.in-Comma.is (c.take_sort.ensures c.args.signature.now)
