-- A chain of tests joined by "and", as the code evaluates it: the next test is made only where those before it held.
use mathlib.Core.Path.{◌≡◌, ◌∙◌}
use mathlib.Core.Bool.{Bool, true, false, ◌&&◌}

-- a flag f that says a: where it holds, the flag g of the whole is the next test's answer, which says b
pub and-next : {f g r : Bool} {a b : Bool} → f ≡ a → f ≡ true → r ≡ b → g ≡ r → g ≡ (a && b)
and-next e t n h = rw (← e, t) (h ∙ n)

-- where it does not hold, it is the flag of the whole
pub and-stop : {f g : Bool} {a : Bool} (b : Bool) → f ≡ a → f ≡ false → g ≡ f → g ≡ (a && b)
and-stop b e t h = rw (← e, t) (h ∙ t)
