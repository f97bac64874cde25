-- Languages that are read line by line: which texts belong to one, and which fault another text has first.
use Rattle.std.specs.Prelude.{ℕ, ◌+◌, ◌≤◌, ◌<◌, ◌≡◌, ◌≢◌, ◌⊎◌, List, [], ◌∷◌, length, Bool, true, false}
use Rattle.line_text.specs.Text.{lines}

-- what a line may say behind the lines before, of which the latest stands first; and what they all say together
pub record Grammar (S V : Type 0) : Type 1 where
  pub IsLine : (before : List S) → (line : List ℕ) → S → Type 0
  pub is_over : (said : List S) → Bool
  pub value_of : (said : List S) → V
  pub most_bytes : ℕ

-- which rule a line breaks first, and how a fault is named by its line's number and its rule
pub record Refusals (S W F : Type 0) : Type 1 where
  pub IsBad : (before : List S) → (line : List ℕ) → W → Type 0
  pub too_long : W
  pub after : W
  pub ending : W
  pub fault_at : (line : ℕ) → W → F

abbrev pub how_many : {S : Type 0} → List S → ℕ
how_many [] = 0
how_many (said ∷ before) = how_many before + 1

module _ {S V : Type 0} (g : Grammar S V) where
  -- a text's parts are lines that say this, of which the latest stands first, and then the rest
  abbrev pub Begins : List (List ℕ) → List S → List (List ℕ) → Type 0
  Begins parts [] rest = parts ≡ rest
  Begins parts (said ∷ before) rest = (line : List ℕ) × Begins parts before (line ∷ rest) × g.IsLine before line said

  -- the text is lines that say this value, of which the last ends it, and nothing stands behind them
  pub record IsText (text : List ℕ) (value : V) : Type 0 where
    pub fits : length text ≤ g.most_bytes
    pub said : List S
    pub lines_say : Begins (lines text) said ([] ∷ [])
    pub ended : g.is_over said ≡ true
    pub value_is : value ≡ g.value_of said

module _ {S V W F : Type 0} (g : Grammar S V) (f : Refusals S W F) where
  -- behind the line that ends the text nothing may stand, and before it no line may be without a line end
  abbrev pub LastBreaks : Bool → List ℕ → W → Type 0
  LastBreaks true last rule = (last ≢ []) × (rule ≡ f.after)
  LastBreaks false last rule = rule ≡ f.ending

  abbrev pub LineBreaks : Bool → List S → List ℕ → W → Type 0
  LineBreaks true before line rule = rule ≡ f.after
  LineBreaks false before line rule = f.IsBad before line rule

  -- the first of these parts breaks this rule first
  abbrev pub RestBreaks : List S → List (List ℕ) → W → Type 0
  RestBreaks before [] rule = ⊥
  RestBreaks before (last ∷ []) rule = LastBreaks (g.is_over before) last rule
  RestBreaks before (line ∷ next ∷ more) rule = LineBreaks (g.is_over before) before line rule

  -- the lines before the fault break no rule, and its line breaks this one first
  pub record HasFault (text : List ℕ) (fault : F) : Type 0 where
    pub fits : length text ≤ g.most_bytes
    pub before : List S
    pub rest : List (List ℕ)
    pub rule : W
    pub lines_say : Begins g (lines text) before rest
    pub breaks : RestBreaks before rest rule
    pub fault_is : fault ≡ f.fault_at (how_many before + 1) rule

  -- a text with more bytes than it may have, or with a first faulty line
  abbrev pub IsFault : List ℕ → F → Type 0
  IsFault text fault = ((g.most_bytes < length text) × (fault ≡ f.fault_at 0 f.too_long)) ⊎ HasFault text fault

-- there is a value or a fault, not both, and no other
pub record IsOneOf {V F : Type 0} (IsValue : V → Type 0) (IsFaulty : F → Type 0) : Type 0 where
  pub either : ((value : V) × IsValue value) ⊎ ((fault : F) × IsFaulty fault)
  pub not_both : (value : V) (fault : F) → IsValue value → IsFaulty fault → ⊥
  pub one_value : (value other : V) → IsValue value → IsValue other → value ≡ other
  pub one_fault : (fault other : F) → IsFaulty fault → IsFaulty other → fault ≡ other
