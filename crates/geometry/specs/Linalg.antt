-- The Cholesky factor l of a symmetric matrix a, which is lower triangular with l times its transpose equal to a, and the solution x of a x = b by
-- l y = b and then the transpose of l times x = y (docs/REFERENCE.md, 'Chi-square', steps 3 and 4; the Rust's linalg.rs makes the same operations in the same order).
-- A matrix of n rows is the list of its n * n numbers, row by row. A loop `for k in 0..j` is a recursion on the count j.
use Rattle.std.specs.Prelude.{ℕ, zero, suc, ◌+◌, ◌-◌, ◌*◌, cond, List, get_or, set, replicate, Float, Option, Some, None}
use Rattle.std.specs.Float.{nan}
use Rattle.floats.specs.Root.{root}
use Rattle.geometry.specs.Numbers.{◌⊕◌, ◌⊖◌, ◌⊗◌, ◌⊘◌, whole, not_above}

-- what stands at an index, which is always below the length here
abbrev pub element : List Float → ℕ → Float
element l i = get_or l i nan

abbrev pub entry : ℕ → List Float → ℕ → ℕ → Float
entry n m row column = element m (row * n + column)

-- for k in 0..j { value -= p(k); }
unfoldable pub minus_each : Float → (ℕ → Float) → ℕ → Float
minus_each value p zero = value
minus_each value p (suc k) = minus_each value p k ⊖ p k

-- for i in i..i + d { value = a[i][j]; for k in 0..j { value -= l[i][k] * l[j][k]; } l[i][j] = value / root; }
unfoldable pub rows_below : ℕ → List Float → Float → ℕ → ℕ → ℕ → List Float → List Float
rows_below n a r j i zero l = l
rows_below n a r j i (suc d) l =
    rows_below n a r j (suc i) d (set l (i * n + j) (minus_each (entry n a i j) (λ k. entry n l i k ⊗ entry n l j k) j ⊘ r))

-- for j in j..j + d: the diagonal less its squares, refused where it is a NaN or not above zero; its root; the rows below it
unfoldable pub columns : ℕ → List Float → ℕ → ℕ → List Float → Option (List Float)
columns n a j zero l = Some l
columns n a j (suc d) l =
    let diagonal = minus_each (entry n a j j) (λ k. entry n l j k ⊗ entry n l j k) j in
    let r = root diagonal in
    cond (not_above diagonal) None (columns n a (suc j) d (rows_below n a r j (suc j) d (set l (j * n + j) r)))

unfoldable pub cholesky_of : ℕ → List Float → Option (List Float)
cholesky_of n a = columns n a 0 n (replicate (n * n) (whole 0))

-- for i in i..i + d { value = b[i]; for k in 0..i { value -= l[i][k] * y[k]; } y[i] = value / l[i][i]; }
unfoldable pub forwards : ℕ → List Float → List Float → ℕ → ℕ → List Float → List Float
forwards n l b i zero y = y
forwards n l b i (suc d) y =
    forwards n l b (suc i) d (set y i (minus_each (element b i) (λ k. entry n l i k ⊗ element y k) i ⊘ entry n l i i))

unfoldable pub forward : ℕ → List Float → List Float → List Float
forward n l b = forwards n l b 0 n (replicate n (whole 0))

-- for i in (0..i).rev() { value = y[i]; for k in i + 1..n { value -= l[k][i] * x[k]; } x[i] = value / l[i][i]; }
unfoldable pub backwards : ℕ → List Float → List Float → ℕ → List Float → List Float
backwards n l y zero x = x
backwards n l y (suc i) x =
    backwards n l y i
    (set x i (minus_each (element y i) (λ k. entry n l (suc i + k) i ⊗ element x (suc i + k)) (n - suc i) ⊘ entry n l i i))

unfoldable pub backward : ℕ → List Float → List Float → List Float
backward n l y = backwards n l y n (replicate n (whole 0))

unfoldable pub solve_of : ℕ → List Float → List Float → List Float
solve_of n l b = backward n l (forward n l b)

-- p(0) + p(1) + .. + p(k), in this order. (Rust's `sum` begins at -0.0, and -0.0 + x is x.)
unfoldable pub sum_to : (ℕ → Float) → ℕ → Float
sum_to p zero = p 0
sum_to p (suc k) = sum_to p k ⊕ p (suc k)
