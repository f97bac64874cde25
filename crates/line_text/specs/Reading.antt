-- How a text of a language is read, line by line. No public clause cites this module.
use Rattle.std.specs.Prelude.{ℕ, ◌+◌, ◌≡◌, List, [], ◌∷◌, length, Bool, false, ◌==◌, if◌then◌else◌, nat_lt, Result, Ok, Err}
use Rattle.line_text.specs.Language.{Grammar, Refusals, Begins, how_many}
use Rattle.line_text.specs.Text.{HasCut, lines}

-- what is kept of the lines that were read, and how one more is read
pub record Reader (S K W V : Type 0) : Type 0 where
  pub known_of : (said : List S) → K
  pub is_over : K → Bool
  pub count : K → ℕ
  pub read_line : K → (line : List ℕ) → Result K W
  pub value_of : K → V

module _ {S K W V F : Type 0} (f : Refusals S W F) (r : Reader S K W V) where
  abbrev pub refused : K → W → F
  refused known rule = f.fault_at (r.count known + 1) rule

  abbrev pub then_read : K → Result K W → (K → Result K F) → Result K F
  then_read known (Ok new) more = more new
  then_read known (Err rule) more = Err (refused known rule)

  -- behind the last line nothing stands
  unfoldable pub read_lines : K → List (List ℕ) → Result K F
  read_lines known [] = Err (refused known f.ending)
  read_lines known (last ∷ []) = if r.is_over known then (if length last == 0 then Ok known else Err (refused known f.after)) else Err (refused known f.ending)
  read_lines known (line ∷ next ∷ more) = if r.is_over known then Err (refused known f.after) else then_read known (r.read_line known line) (λ new. read_lines new (next ∷ more))

  abbrev pub value_by : Result K F → Result V F
  value_by (Ok known) = Ok (r.value_of known)
  value_by (Err fault) = Err fault

  -- the value that a text is, or its fault
  abbrev pub read_text : (most : ℕ) → List ℕ → Result V F
  read_text most text = value_by (if nat_lt most (length text) then Err (f.fault_at 0 f.too_long) else read_lines (r.known_of []) (lines text))

module _ {S K W V : Type 0} (g : Grammar S V) (r : Reader S K W V) where
  -- the lines before the rest say what is known
  pub record IsReached (text rest : List ℕ) (known : K) : Type 0 where
    pub said : List S
    pub lines_say : Begins g (lines text) said (lines rest)
    pub known_is : known ≡ r.known_of said

module _ {S K W V : Type 0} (r : Reader S K W V) where
  -- one more line of a text was read, and this stands behind it
  pub record IsNext (known new : K) (text after : List ℕ) : Type 0 where
    pub line : List ℕ
    pub cut : HasCut 10 text line after
    pub before_end : r.is_over known ≡ false
    pub reads : r.read_line known line ≡ Ok new

module _ {S K W V F : Type 0} (g : Grammar S V) (f : Refusals S W F) (r : Reader S K W V) where
  -- what the reading of a line gives
  abbrev pub LineMeets : List S → List ℕ → Result K W → Type 0
  LineMeets before line (Ok new) = (said : S) × g.IsLine before line said × (new ≡ r.known_of (said ∷ before))
  LineMeets before line (Err rule) = f.IsBad before line rule

  -- each line is read as what it says, and refused with the first rule that it breaks, behind lines of which `Fit` holds
  pub record ReadsLines (Fit : List S → Type 0) : Type 0 where
    pub begins : Fit []
    pub stays : (before : List S) (line : List ℕ) (said : S) → Fit before → g.IsLine before line said → Fit (said ∷ before)
    pub over : (said : List S) → r.is_over (r.known_of said) ≡ g.is_over said
    pub counts : (said : List S) → r.count (r.known_of said) ≡ how_many said
    pub values : (said : List S) → r.value_of (r.known_of said) ≡ g.value_of said
    pub before_end : (before : List S) (line : List ℕ) (said : S) → g.IsLine before line said → g.is_over before ≡ false
    pub meets : (before : List S) (line : List ℕ) → Fit before → g.is_over before ≡ false → LineMeets before line (r.read_line (r.known_of before) line)
    pub again : (before : List S) (line : List ℕ) (said : S) → Fit before → g.IsLine before line said → r.read_line (r.known_of before) line ≡ Ok (r.known_of (said ∷ before))
    pub sole : (before : List S) (line : List ℕ) (rule : W) → Fit before → g.is_over before ≡ false → f.IsBad before line rule → r.read_line (r.known_of before) line ≡ Err rule
