-- Request Seven, of every job whose listing is not refused.
use Rattle.layouts.specs.Demand3.{J, L}
use Rattle.layouts.specs.OwnCuts.{OwnCutsOfAll}
use Rattle.layouts.proofs.machine.OwnCuts.{own-cuts}
use Rattle.layouts.proofs.demand.Demand3.{model}

pub own-cuts-of-all : OwnCutsOfAll
own-cuts-of-all ws listed = own-cuts (J ws) (L ws) (model ws listed)
