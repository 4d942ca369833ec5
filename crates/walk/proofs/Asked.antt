-- What is read of a question's index, said of the question. Assumes nothing.
use mathlib.Core.Path.{◌≡◌, ap, ◌∙◌}
use Rattle.scope.specs.Tables.{Index}
use Rattle.scope.specs.Walk.{Question}

module _ {A : Type 0} (f : Index → A) {ask q : Question} where
  pub of_index : {x : Index} {b : A} → x ≡ q.index → q ≡ ask → b ≡ f x → b ≡ f ask.index
  of_index i a e = e ∙ ap f i ∙ ap (λ (a : Question). f a.index) a

  pub of_asked : {b : A} → q ≡ ask → b ≡ f q.index → b ≡ f ask.index
  of_asked a e = e ∙ ap (λ (a : Question). f a.index) a
