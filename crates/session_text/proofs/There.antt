-- What is shown stands on the line that is bad: the lines before it are as many as line feeds, and what is due does not stand there.
use Rattle.std.proofs.Common.{◌≡◌, ◌∙◌, refl, sym, ap, subst, ℕ, zero, suc, ◌+◌, ◌-◌, ◌<◌, ◌≤◌, Bool, true, false, cond, List, [], ◌∷◌, ◌++◌, length, take, drop, arith, Option, Some, None, Result, Ok, Err, ok_or, not, ◌&&◌, ◌==◌, ltb, lt-ltb, le-ltb, ltb-true, ltb-false, take-append-drop}
use Rattle.std.specs.List.{position_or_len}
use Rattle.std.specs.Str.{bytes_eq}
use Rattle.std.proofs.lemmas.Slice.Eq.{bytes_eq-Decides}
use Rattle.lists.proofs.Bools.{by, and_left, and_right}
use Rattle.register.specs.Calls.{Call}
use Rattle.session_lines.specs.declared.lines.BadLine.{BadLine}
use Rattle.session_lines.specs.declared.lines.Due.{Due}
use Rattle.session_lines.specs.declared.lines.Due.TheVariants as due
use Rattle.session_lines.specs.declared.lines.Kind.{Kind}
use Rattle.session_lines.specs.Keys.{key_of}
use Rattle.session_lines.specs.Numbers.{split_once}
use Rattle.session_lines.specs.Lines.{At, Reading, ◌>>=◌, bad_line, cut, text, value}
use Rattle.session_lines.specs.Operations.{kind_of, operands_at, operation_at}
use Rattle.session_lines.specs.Session.{at_start, session_at}
use Rattle.session_lines.specs.Claims.{is_value, lines_after, lines_only, pass_line, pass_lines, and_then}
use Rattle.session_lines.proofs.Forward.{left_less, session-empty, session-here, session-step}
use Rattle.session_lines.proofs.Named.{first-line, lines-after, due-is-bad}
use Rattle.session_text.specs.Found.{behind_feed, behind_lines}
use Rattle.session_text.specs.Claims.{ShownIsBad}

-- ---- a line without its key has the same line feed at its end

abbrev first_feed : List ℕ → ℕ
first_feed s = position_or_len (λ (b : ℕ). b == 10) s

behind-is : (s : List ℕ) → behind_feed (split_once 10 s) ≡ cond (ltb (first_feed s) (length s)) (drop (first_feed s + 1) s) []
behind-is s = by (ltb (first_feed s) (length s)) (λ t. rw t refl) (λ t. rw t refl)

first-skip : (x : ℕ) (u : List ℕ) → (x == 10) ≡ false → first_feed (x ∷ u) ≡ suc (first_feed u)
first-skip x u h = rw h (omega arith)

lt-suc : (a b : ℕ) → ltb (suc a) (suc b) ≡ ltb a b
lt-suc a b =
    by (ltb a b) (λ t. let h = ltb-true a b t in lt-ltb (suc a) (suc b) (omega arith) ∙ sym t)
    (λ t. let h = ltb-false a b t in le-ltb (suc a) (suc b) (omega arith) ∙ sym t)

shifted : (m : ℕ) (x : ℕ) (u : List ℕ) → cond (ltb (suc m) (length (x ∷ u))) (drop (suc m + 1) (x ∷ u)) [] ≡ cond (ltb m (length u)) (drop (m + 1) u) []
shifted m x u = let d : suc m + 1 ≡ suc (m + 1) = omega arith in rw (d, lt-suc m (length u)) refl

skip : (x : ℕ) (u : List ℕ) → (x == 10) ≡ false → behind_feed (split_once 10 (x ∷ u)) ≡ behind_feed (split_once 10 u)
skip x u h =
    behind-is (x ∷ u) ∙ ap (λ (n : ℕ). cond (ltb n (length (x ∷ u))) (drop (n + 1) (x ∷ u)) []) (first-skip x u h) ∙ shifted (first_feed u) x u ∙ sym (behind-is u)

no_feed : List ℕ → Bool
no_feed [] = true
no_feed (b ∷ k) = not (b == 10) && no_feed k

negated : (b : Bool) → not b ≡ true → b ≡ false
negated true h = cc
negated false h = refl

past : (k u : List ℕ) → no_feed k ≡ true → behind_feed (split_once 10 (k ++ u)) ≡ behind_feed (split_once 10 u)
unfolding no_feed
past [] u h = refl
past (b ∷ k) u h = skip b (k ++ u) (negated (b == 10) (and_left (not (b == 10)) (no_feed k) h)) ∙ past k u (and_right (not (b == 10)) (no_feed k) h)

key-fine : (d : Due) → no_feed (key_of d) ≡ true
unfolding no_feed
key-fine due.Op = refl
key-fine due.Engine = refl
key-fine due.Model = refl
key-fine due.Spec = refl
key-fine due.Inputs = refl
key-fine due.Time = refl
key-fine due.Lat = refl
key-fine due.Lon = refl
key-fine due.Height = refl
key-fine due.Message = refl
key-fine due.Tags = refl
key-fine due.Used = refl
key-fine due.Models = refl
key-fine due.Cov = refl

cut-behind : (d : Due) (s : List ℕ) (p : List ℕ × List ℕ) → cut (key_of d) s ≡ Some p → behind_feed (split_once 10 s) ≡ p.1
unfolding cut
cut-behind d s p h =
    let k = key_of d in
    let n = length k in
    by (bytes_eq (take n s) k)
    (λ t.
    let front : take n s ≡ k = (bytes_eq-Decides (take n s) k).0 t in
    let whole : k ++ drop n s ≡ s = ap (λ (f : List ℕ). f ++ drop n s) (sym front) ∙ take-append-drop n s in
    let found : split_once 10 (drop n s) ≡ Some p = rw t at h in
    ap (λ (x : List ℕ). behind_feed (split_once 10 x)) (sym whole) ∙ past k (drop n s) (key-fine d) ∙ ap behind_feed found)
    (λ t. let none : ◌≡◌ {A = Option (List ℕ × List ℕ)} None (Some p) = rw t at h in cc)

-- ---- where a reading has come to

module _ (s : List ℕ) where
  -- what is left begins on the line that it says
  pub record Here (a : At) : Type 0 where
    pub rest_is : a.rest ≡ behind_lines (a.line - 1) s
    pub some : 1 ≤ a.line

  text-keeps : (d : Due) (a : At) (t : List ℕ × At) → Here a → text d a ≡ Ok t → Here t.1
  unfolding text behind_lines
  text-keeps d a t h e = go (cut (key_of d) a.rest) refl e
    where
      next : (p : List ℕ × List ℕ) → cut (key_of d) a.rest ≡ Some p → Here (record { rest = p.1; line = a.line + 1 })
      next p q =
          let some = h.some in
          let n : a.line + 1 - 1 ≡ suc (a.line - 1) = omega arith in
          record {
            rest_is = sym (cut-behind d a.rest p q) ∙ ap (λ (x : List ℕ). behind_feed (split_once 10 x)) h.rest_is ∙ ap (λ (k : ℕ). behind_lines k s) (sym n);
            some = omega arith;
          }

      go : (o : Option (List ℕ × List ℕ)) → cut (key_of d) a.rest ≡ o
          → (ok_or o (bad_line d a) >>= λ (t : List ℕ × List ℕ). Ok (t.0, record { rest = t.1; line = a.line + 1 })) ≡ Ok t → Here t.1
      go None q e = cc
      go (Some p) q e = let z : (p.0, record { rest = p.1; line = a.line + 1 }) ≡ t = cc in subst (λ (x : List ℕ × At). Here x.1) z (next p q)

  line-keeps : (d : Due) (a r : At) → Here a → pass_line d a ≡ Ok r → Here r
  line-keeps d a r h e = go (text d a) refl e
    where
      go : (m : Reading (List ℕ)) → text d a ≡ m → (m >>= λ (t : List ℕ × At). cond (is_value d t.0) (Ok t.1) (Err (bad_line d a))) ≡ Ok r → Here r
      go (Ok t) q e =
          by (is_value d t.0) (λ k. let z : ◌≡◌ {A = Result At BadLine} (Ok t.1) (Ok r) = rw k at e in let y : t.1 ≡ r = cc in subst Here y (text-keeps d a t h q))
          (λ k. let z : ◌≡◌ {A = Result At BadLine} (Err (bad_line d a)) (Ok r) = rw k at e in cc)
      go (Err b) q e = cc

  lines-keep : (ds : List Due) (a r : At) → Here a → pass_lines ds a ≡ Ok r → Here r
  unfolding pass_lines
  lines-keep [] a r h e = let z : a ≡ r = cc in subst Here z h
  lines-keep (d ∷ ds) a r h e = go (λ b k. lines-keep ds b r k) (pass_line d a) refl e
    where
      go : ((b : At) → Here b → pass_lines ds b ≡ Ok r → Here r) → (m : Result At BadLine) → pass_line d a ≡ m → (m >>= pass_lines ds) ≡ Ok r → Here r
      go more (Ok b) q e = more b (line-keeps d a b h q) e
      go more (Err b) q e = cc

  operation-keeps : (a : At) (c : Call) (r : At) → Here a → operation_at a ≡ Ok (c, r) → Here r
  unfolding operation_at
  operation-keeps a c r h e = go (value due.Op kind_of a) (first-line a) e
    where
      go : (m : Reading Kind) → lines_only m ≡ pass_line due.Op a → (m >>= λ (k : Kind × At). operands_at k.0 k.1) ≡ Ok (c, r) → Here r
      go (Ok k) q e =
          let l : lines_only (operands_at k.0 k.1) ≡ Ok r = ap lines_only e in
          lines-keep (lines_after k.0) k.1 r (line-keeps due.Op a k.1 h (sym q)) (sym (lines-after k.0 k.1) ∙ l)
      go (Err b) q e = cc

  -- ---- the bad line

  bad-line : (d : Due) (a : At) (e : BadLine) → pass_line d a ≡ Err e → a.line ≡ e.line
  unfolding text
  bad-line d a e h = go (text d a) refl h
    where
      line_of : (b : BadLine) → ◌≡◌ {A = Reading (List ℕ)} (Err b) (text d a) → b.line ≡ a.line
      line_of b q = by_cut (cut (key_of d) a.rest) q
        where
          by_cut : (o : Option (List ℕ × List ℕ))
              → ◌≡◌ {A = Reading (List ℕ)} (Err b) (ok_or o (bad_line d a) >>= λ (t : List ℕ × List ℕ). Ok (t.0, record { rest = t.1; line = a.line + 1 })) → b.line ≡ a.line
          by_cut None q = let z : b ≡ bad_line d a = cc in ap (λ (x : BadLine). x.line) z
          by_cut (Some p) q = cc

      go : (m : Reading (List ℕ)) → text d a ≡ m → (m >>= λ (t : List ℕ × At). cond (is_value d t.0) (Ok t.1) (Err (bad_line d a))) ≡ Err e → a.line ≡ e.line
      go (Ok t) q h =
          by (is_value d t.0) (λ k. let z : ◌≡◌ {A = Result At BadLine} (Ok t.1) (Err e) = rw k at h in cc)
          (λ k. let z : ◌≡◌ {A = Result At BadLine} (Err (bad_line d a)) (Err e) = rw k at h in let y : bad_line d a ≡ e = cc in ap (λ (x : BadLine). x.line) y)
      go (Err b) q h = let y : b ≡ e = cc in sym (line_of b (sym q)) ∙ ap (λ (x : BadLine). x.line) y

  abbrev Shown : BadLine → Type 0
  Shown e = pass_line e.due (record { rest = behind_lines (e.line - 1) s; line = e.line }) ≡ Err e

  operation-bad : (a : At) (e : BadLine) → Here a → operation_at a ≡ Err e → Shown e
  operation-bad a e h q =
      let b = due-is-bad a e q in
      let k = lines-keep b.before a b.rest h b.good in
      let n = bad-line e.due b.rest e b.here in
      let same : b.rest ≡ record { rest = behind_lines (e.line - 1) s; line = e.line } =
      ap (λ (t : List ℕ). let x : At = record { rest = t; line = b.rest.line } in x) k.rest_is
      ∙ ap (λ (m : ℕ). let x : At = record { rest = behind_lines (m - 1) s; line = m } in x) n in
      subst (λ (x : At). pass_line e.due x ≡ Err e) same b.here

  find : (n : ℕ) (a : At) (e : BadLine) → length a.rest ≤ n → Here a → session_at a ≡ Err e → Shown e
  find zero a e few h q = let z : ◌≡◌ {A = Result (List Call) BadLine} (Ok []) (Err e) = sym (session-empty a (omega arith)) ∙ q in cc
  find (suc n) a e few h q =
      by (ltb 0 (length a.rest)) (λ t. let some = ltb-true 0 (length a.rest) t in go (λ x. find n x e) some (operation_at a) refl)
      (λ t. let none = ltb-false 0 (length a.rest) t in let z : ◌≡◌ {A = Result (List Call) BadLine} (Ok []) (Err e) = sym (session-empty a (omega arith)) ∙ q in cc)
    where
      later : (c : Call) (m : Result (List Call) BadLine) → and_then c m ≡ Err e → m ≡ Err e
      later c (Ok cs) h = cc
      later c (Err b) h = h

      go : ((x : At) → length x.rest ≤ n → Here x → session_at x ≡ Err e → Shown e) → 0 < length a.rest → (m : Reading Call) → operation_at a ≡ m → Shown e
      go more some (Err b) k =
          let z : ◌≡◌ {A = Result (List Call) BadLine} (Err b) (Err e) = sym (session-here a b some k) ∙ q in
          let y : b ≡ e = cc in
          subst Shown y (operation-bad a b h k)
      go more some (Ok x) k =
          let less = left_less a x.0 x.1 k in
          more x.1 (omega arith) (operation-keeps a x.0 x.1 h k) (later x.0 (session_at x.1) (sym (session-step a x.0 x.1 k) ∙ q))

pub shown-is-bad : ShownIsBad
unfolding behind_lines
shown-is-bad s e q = find s (length s) (at_start s) e (omega arith) (record { rest_is = refl; some = omega arith }) q
