-- What an index holds that none of refusals 1 to 3 fits. Assumes nothing.
use Rattle.std.specs.Prelude.{◌≡◌, true, ◌*◌, ◌≤◌, length}
use Rattle.scope.specs.Shape.{listed, m, starts_before}
use Rattle.scope.specs.Tables.{Index, n}

-- none of refusals 1 to 3 fits
pub record Lent (x : Index) : Type 0 where
  pub known : listed x.shape ≡ true
  pub few : n x ≤ 65536
  pub codes : length x.codes ≡ n x * x.shape.w
  pub starts : starts_before x.shape (m x.shape) ≤ length x.starts
  pub ids : m x.shape * n x ≤ length x.ids
