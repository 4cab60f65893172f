use Rattle.ev_value.proofs.Divisions as laws
use Rattle.ev_value.proofs.division.floor_divides.Goals as goal

pub returns : goal.returns
returns c = laws.floor_divides
