use Rattle.enforce_types.proofs.GuardPlaces.{all_listed}
use Rattle.enforce_types.proofs.laws.guards_stand_at_their_numbers.Goals as goal

pub returns : goal.returns
returns c = all_listed
