-- What a question holds that the searches walk for. Assumes nothing.
use Rattle.std.specs.Prelude.{◌≡◌, length}
use Rattle.scope.specs.Walk.{Question}
use Rattle.shapes.specs.Lent.{Lent}

-- none of refusals 1 to 3 fits its index, and its query and its mask are of w words
pub record Asked (ask : Question) : Type 0 where
  pub lent : Lent ask.index
  pub query : length ask.query ≡ ask.index.shape.w
  pub mask : length ask.mask ≡ ask.index.shape.w
