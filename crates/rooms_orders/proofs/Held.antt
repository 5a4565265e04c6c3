-- Texts that are held, each once.
use Rattle.std.proofs.Common.{◌≡◌, ◌∙◌, ap, sym, refl, ℕ, suc, ◌+◌, Bool, true, false, List, [], ◌∷◌, ◌++◌, ◌||◌, length, length-append, arith}
use Rattle.std.proofs.lemmas.List.Folds.{list_any-append}
use Rattle.lists.proofs.Bools.{by}
use Rattle.octets.specs.Order.{same}
use Rattle.octets.proofs.Comparison.{same-eq}
use Rattle.register.specs.Calls.{elem, nub}
use Rattle.rooms_orders.specs.Tried.{with_text}

pub elem-here : (t y : List ℕ) (ys : List (List ℕ)) → same y t ≡ true → elem t (y ∷ ys) ≡ true
unfolding elem
elem-here t y ys h = ap (λ (b : Bool). b || elem t ys) h

pub elem-past : (t y : List ℕ) (ys : List (List ℕ)) → same y t ≡ false → elem t (y ∷ ys) ≡ elem t ys
unfolding elem
elem-past t y ys h = ap (λ (b : Bool). b || elem t ys) h

pub elem-none : (t : List ℕ) → elem t [] ≡ false
unfolding elem
elem-none t = refl

elem-more : (t y : List ℕ) (ys : List (List ℕ)) → elem t (y ∷ ys) ≡ (same y t || elem t ys)
unfolding elem
elem-more t y ys = refl

elem-last : (t y : List ℕ) (ys : List (List ℕ)) → elem t (ys ++ (y ∷ [])) ≡ (elem t ys || (same y t || false))
unfolding elem
elem-last t y ys = list_any-append (λ z. same z t) ys (y ∷ [])

turned : (a b : Bool) → (a || (b || false)) ≡ (b || a)
turned true true = refl
turned true false = refl
turned false true = refl
turned false false = refl

-- held are the texts of a list, each once
pub record Seen (texts held : List (List ℕ)) : Type 0 where
  pub members : (t : List ℕ) → elem t held ≡ elem t texts
  pub count : length held ≡ length (nub texts)

pub seen-none : Seen [] []
unfolding nub
seen-none = record { members = λ t. refl; count = refl }

module _ (t : List ℕ) (texts held : List (List ℕ)) (s : Seen texts held) where
  known : elem t held ≡ true → Seen (t ∷ texts) held
  unfolding nub
  known h =
      let here : elem t texts ≡ true = sym (s.members t) ∙ h in
      record {
        members = λ u. s.members u ∙ by (same t u)
            (λ e. let same_text : t ≡ u = same-eq t u e in ap (λ (z : List ℕ). elem z texts) (sym same_text) ∙ here ∙ sym (elem-here u t texts e))
            (λ e. sym (elem-past u t texts e));
        count = s.count ∙ sym (rw here refl);
      }

  new : elem t held ≡ false → Seen (t ∷ texts) (held ++ (t ∷ []))
  unfolding nub
  new h =
      let absent : elem t texts ≡ false = sym (s.members t) ∙ h in
      let c = s.count in
      let long : length (held ++ (t ∷ [])) ≡ length held + 1 = length-append held (t ∷ []) in
      let more : length (nub texts) + 1 ≡ suc (length (nub texts)) = omega arith in
      record {
        members = λ u. elem-last u t held ∙ turned (elem u held) (same t u) ∙ ap (λ (b : Bool). same t u || b) (s.members u) ∙ sym (elem-more u t texts);
        count = long ∙ ap (λ (n : ℕ). n + 1) c ∙ more ∙ sym (rw absent refl);
      }

  pub seen-more : (held' : List (List ℕ)) → held' ≡ with_text t held → Seen (t ∷ texts) held'
  seen-more held' e = rw e (by (elem t held) (λ h. rw h (known h)) (λ h. rw h (new h)))
