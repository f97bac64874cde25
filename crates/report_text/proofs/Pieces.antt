-- Lists that are cut at a byte.
use Rattle.std.proofs.Common.{◌≡◌, ℕ, List, [], ◌∷◌, ◌++◌, map, Bool, true, false, ◌&&◌, not, ◌==◌, refl, ap, ◌∙◌}
use Rattle.std.proofs.lemmas.Bool.{and_parts, eq-eqb, ne_eqb}
use Rattle.std.proofs.lemmas.List.{append-nil}
use Rattle.std.proofs.lemmas.List.Elements.{All-nil, All-cons}
use Rattle.std.proofs.lemmas.List.Splits.{slice_split_none, slice_split_at}
use Rattle.std.specs.List.{All, slice_split, flat_map}
use Rattle.spie_base.proofs.Booleans.{both_hold, not_false}

-- no element of the list is c
abbrev pub lacks : ℕ → List ℕ → Bool
lacks c [] = true
lacks c (b ∷ bs) = not (b == c) && lacks c bs

-- the parts of a list between its c's
abbrev pub parts : ℕ → List ℕ → List (List ℕ)
parts c bs = slice_split (λ b. b == c) bs

lacks-all : (c : ℕ) (bs : List ℕ) → lacks c bs ≡ true → All (λ b. (b == c) ≡ false) bs
lacks-all c [] e = All-nil (λ b. (b == c) ≡ false)
lacks-all c (b ∷ bs) e =
    let both = and_parts (not (b == c)) (lacks c bs) e in
    All-cons (λ b. (b == c) ≡ false) b bs (not_false (b == c) both.0) (lacks-all c bs both.1)

pub other_byte : (c d : ℕ) → (d ≡ c → ⊥) → not (d == c) ≡ true
other_byte c d apart = ap not (ne_eqb d c apart)

pub lacks-append : (c : ℕ) (xs ys : List ℕ) → lacks c xs ≡ true → lacks c ys ≡ true → lacks c (xs ++ ys) ≡ true
lacks-append c [] ys e f = f
lacks-append c (b ∷ bs) ys e f =
    let both = and_parts (not (b == c)) (lacks c bs) e in
    both_hold (not (b == c)) (lacks c (bs ++ ys)) both.0 (lacks-append c bs ys both.1 f)

pub parts_one : (c : ℕ) (bs : List ℕ) → lacks c bs ≡ true → parts c bs ≡ bs ∷ []
parts_one c bs e = slice_split_none (λ b. b == c) bs (lacks-all c bs e)

pub parts_more : (c : ℕ) (bs rest : List ℕ) → lacks c bs ≡ true → parts c (bs ++ c ∷ rest) ≡ bs ∷ parts c rest
parts_more c bs rest e = slice_split_at (λ b. b == c) bs c rest (lacks-all c bs e) (eq-eqb c c refl)

-- a test passes at each element
abbrev pub Each : {X : Type 0} → (X → Type 0) → List X → Type 0
Each P [] = Unit {0}
Each P (x ∷ xs) = P x × Each P xs

-- texts with a c between each two are cut into the texts
pub parts_joined : {X : Type 0} (c : ℕ) (text : X → List ℕ) (first : List ℕ) (more : List X) → lacks c first ≡ true → Each (λ x. lacks c (text x) ≡ true) more → parts c (first ++ flat_map (λ x. c ∷ text x) more) ≡ first ∷ map text more
parts_joined c text first [] one each = ap (parts c) (append-nil first) ∙ parts_one c first one
parts_joined c text first (x ∷ more) one each =
    parts_more c first (text x ++ flat_map (λ y. c ∷ text y) more) one ∙ ap (λ ps. first ∷ ps) (parts_joined c text (text x) more each.0 each.1)
