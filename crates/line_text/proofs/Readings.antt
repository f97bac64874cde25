-- A text is read as the value that it is, and refused with the first fault that it has.
use Rattle.std.proofs.Common.{ℕ, ◌≡◌, ◌+◌, ◌≤◌, ◌⊎◌, inl, inr, List, [], ◌∷◌, length, refl, ap, arith, sym, ◌∙◌, subst, Result, Ok, Err, Bool, true, false, cond, ◌==◌, nat_lt}
use Rattle.spie_base.proofs.Bounds.{past, is_past, within, is_within, some_items}
use Rattle.line_text.proofs.Parts.{Parts, some_part, few_parts}
use Rattle.line_text.specs.Language.{Grammar, Refusals, how_many, Begins, IsText, LastBreaks, LineBreaks, RestBreaks, IsFault, IsOneOf}
use Rattle.line_text.specs.Reading.{Reader, refused, then_read, read_lines, value_by, read_text, IsReached, IsNext, LineMeets, ReadsLines}
use Rattle.line_text.specs.Text.{lines}

-- ---- lines that begin a text

module _ {S V : Type 0} (g : Grammar S V) where
  -- what is so before the first line, and stays so with one line more, is so of all lines
  pub along : (Fit : List S → Type 0) → Fit [] → ((before : List S) (line : List ℕ) (said : S) → Fit before → g.IsLine before line said → Fit (said ∷ before)) → (parts : List (List ℕ)) (said : List S) (rest : List (List ℕ)) → Begins g parts said rest → Fit said
  along Fit first more parts [] rest b = first
  along Fit first more parts (s ∷ before) rest b = more before b.0 s (along Fit first more parts before (b.0 ∷ rest) b.1) b.2

  counted : (parts : List (List ℕ)) (said : List S) (rest : List (List ℕ)) → Begins g parts said rest → length parts ≡ how_many said + length rest
  counted parts [] rest b = ap length b ∙ omega arith
  counted parts (s ∷ before) rest b = let h = counted parts before (b.0 ∷ rest) b.1 in omega (arith, h)

  -- the lines before a part are no more than the text's bytes
  pub few_lines : (text : List ℕ) (said : List S) (last : List ℕ) (rest : List (List ℕ)) → Begins g (lines text) said (last ∷ rest) → how_many said ≤ length text
  few_lines text said last rest b = let c = counted (lines text) said (last ∷ rest) b in let d = few_parts text in omega (arith, c, d)

module _ {S V W F : Type 0} (g : Grammar S V) (f : Refusals S W F) where
  abbrev pub TextMeets : List ℕ → Result V F → Type 0
  TextMeets text (Ok value) = IsText g text value
  TextMeets text (Err fault) = IsFault g f text fault

module _ {S K W V : Type 0} (g : Grammar S V) (r : Reader S K W V) where
  pub at_start : (text : List ℕ) (known : K) → known ≡ r.known_of [] → IsReached g r text text known
  at_start text known is = record { said = []; lines_say = refl; known_is = is }

module _ {S K W V F : Type 0} (g : Grammar S V) (f : Refusals S W F) (r : Reader S K W V) (Fit : List S → Type 0) (law : ReadsLines g f r Fit) where
  fits : (parts : List (List ℕ)) (said : List S) (rest : List (List ℕ)) → Begins g parts said rest → Fit said
  fits parts said rest b = along g Fit law.begins law.stays parts said rest b

  -- ---- what is read is so

  -- the parts are lines, of which the last ends the text
  pub record IsWhole (parts : List (List ℕ)) (known : K) : Type 0 where
    pub said : List S
    pub lines_say : Begins g parts said ([] ∷ [])
    pub ended : g.is_over said ≡ true
    pub known_is : known ≡ r.known_of said

  -- the parts have this fault first
  pub record IsBroken (parts : List (List ℕ)) (fault : F) : Type 0 where
    pub before : List S
    pub rest : List (List ℕ)
    pub rule : W
    pub lines_say : Begins g parts before rest
    pub breaks : RestBreaks g f before rest rule
    pub fault_is : fault ≡ f.fault_at (how_many before + 1) rule

  abbrev pub PartsMeet : List (List ℕ) → Result K F → Type 0
  PartsMeet parts (Ok known) = IsWhole parts known
  PartsMeet parts (Err fault) = IsBroken parts fault

  broke : (parts : List (List ℕ)) (before : List S) (rest : List (List ℕ)) (rule : W) → Begins g parts before rest → RestBreaks g f before rest rule → IsBroken parts (refused f r (r.known_of before) rule)
  broke parts before rest rule b h = record { before = before; rest = rest; rule = rule; lines_say = b; breaks = h; fault_is = ap (λ n. f.fault_at (n + 1) rule) (law.counts before) }

  at_last : (parts : List (List ℕ)) (before : List S) (last : List ℕ) (over : Bool) → g.is_over before ≡ over → Begins g parts before (last ∷ []) → PartsMeet parts (cond over (cond (length last == 0) (Ok (r.known_of before)) (Err (refused f r (r.known_of before) f.after))) (Err (refused f r (r.known_of before) f.ending)))
  at_last parts before [] true o b = record { said = before; lines_say = b; ended = o; known_is = refl }
  at_last parts before (x ∷ xs) true o b =
      let h : RestBreaks g f before ((x ∷ xs) ∷ []) f.after = rw o (λ q. cc, refl) in
      rw (some_items x xs) (broke parts before ((x ∷ xs) ∷ []) f.after b h)
  at_last parts before last false o b =
      let h : RestBreaks g f before (last ∷ []) f.ending = rw o refl in
      broke parts before (last ∷ []) f.ending b h

  -- one line, and the rest, of which `go` tells
  went : (parts : List (List ℕ)) (before : List S) (line next : List ℕ) (more : List (List ℕ)) (x : Result K W) → g.is_over before ≡ false → Begins g parts before (line ∷ next ∷ more) → ((said : S) → g.IsLine before line said → PartsMeet parts (read_lines f r (r.known_of (said ∷ before)) (next ∷ more))) → LineMeets g f r before line x → PartsMeet parts (then_read f r (r.known_of before) x (λ new. read_lines f r new (next ∷ more)))
  went parts before line next more (Ok new) o b go m =
      let P : K → Type 0 = λ v. PartsMeet parts (read_lines f r v (next ∷ more)) in
      subst P (sym m.2) (go m.0 m.1)
  went parts before line next more (Err rule) o b go m =
      let h : RestBreaks g f before (line ∷ next ∷ more) rule = rw o m in
      broke parts before (line ∷ next ∷ more) rule b h

  at_line : (parts : List (List ℕ)) (before : List S) (line next : List ℕ) (more : List (List ℕ)) (over : Bool) → g.is_over before ≡ over → Begins g parts before (line ∷ next ∷ more) → ((said : S) → g.IsLine before line said → PartsMeet parts (read_lines f r (r.known_of (said ∷ before)) (next ∷ more))) → PartsMeet parts (cond over (Err (refused f r (r.known_of before) f.after)) (then_read f r (r.known_of before) (r.read_line (r.known_of before) line) (λ new. read_lines f r new (next ∷ more))))
  at_line parts before line next more true o b go =
      let h : RestBreaks g f before (line ∷ next ∷ more) f.after = rw o refl in
      broke parts before (line ∷ next ∷ more) f.after b h
  at_line parts before line next more false o b go = went parts before line next more _ o b go (law.meets before line (fits parts before (line ∷ next ∷ more) b) o)

  rest_meets : (parts : List (List ℕ)) (last : List ℕ) (rest : List (List ℕ)) (before : List S) → Begins g parts before (last ∷ rest) → PartsMeet parts (read_lines f r (r.known_of before) (last ∷ rest))
  unfolding read_lines
  rest_meets parts last [] before b = rw (law.over before) (at_last parts before last _ refl b)
  rest_meets parts line (next ∷ more) before b = rw (law.over before) (at_line parts before line next more _ refl b (λ said l. rest_meets parts next more (said ∷ before) (line, b, l)))

  by_parts : (text : List ℕ) (x : Result K F) → length text ≤ g.most_bytes → PartsMeet (lines text) x → TextMeets g f text (value_by f r x)
  by_parts text (Ok known) fits m = record { fits = fits; said = m.said; lines_say = m.lines_say; ended = m.ended; value_is = ap r.value_of m.known_is ∙ law.values m.said }
  by_parts text (Err fault) fits m = inr (record { fits = fits; before = m.before; rest = m.rest; rule = m.rule; lines_say = m.lines_say; breaks = m.breaks; fault_is = m.fault_is })

  by_size : (text : List ℕ) (p : Parts (lines text)) (b : Bool) → nat_lt g.most_bytes (length text) ≡ b → TextMeets g f text (value_by f r (cond b (Err (f.fault_at 0 f.too_long)) (read_lines f r (r.known_of []) (lines text))))
  by_size text p true e = inl (is_past g.most_bytes (length text) e, refl)
  by_size text p false e =
      let P : List (List ℕ) → Type 0 = λ z. PartsMeet (lines text) (read_lines f r (r.known_of []) z) in
      by_parts text _ (is_within g.most_bytes (length text) e) (subst P (sym p.are) (rest_meets (lines text) p.first p.more [] p.are))

  pub text_meets : (text : List ℕ) → TextMeets g f text (read_text f r g.most_bytes text)
  text_meets text = by_size text (some_part text) _ refl

  -- ---- and what is so is read

  one_more : (parts : List (List ℕ)) (before : List S) (line : List ℕ) (said : S) (next : List ℕ) (more : List (List ℕ)) → Begins g parts before (line ∷ next ∷ more) → g.IsLine before line said → read_lines f r (r.known_of before) (line ∷ next ∷ more) ≡ read_lines f r (r.known_of (said ∷ before)) (next ∷ more)
  unfolding read_lines
  one_more parts before line said next more b l = rw (law.over before, law.before_end before line said l, law.again before line said (fits parts before (line ∷ next ∷ more) b) l) refl

  complete : (parts : List (List ℕ)) (said : List S) (next : List ℕ) (more : List (List ℕ)) → Begins g parts said (next ∷ more) → read_lines f r (r.known_of []) parts ≡ read_lines f r (r.known_of said) (next ∷ more)
  complete parts [] next more b = ap (λ z. read_lines f r (r.known_of []) z) b
  complete parts (s ∷ before) next more b = complete parts before b.0 (next ∷ more) b.1 ∙ one_more parts before b.0 s next more b.1 b.2

  ended_reads : (said : List S) → g.is_over said ≡ true → read_lines f r (r.known_of said) ([] ∷ []) ≡ Ok (r.known_of said)
  unfolding read_lines
  ended_reads said o = rw (law.over said, o) refl

  pub text_is_read : (text : List ℕ) (value : V) → IsText g text value → read_text f r g.most_bytes text ≡ Ok value
  text_is_read text value t =
      rw (within g.most_bytes (length text) t.fits, complete (lines text) t.said [] [] t.lines_say ∙ ended_reads t.said t.ended) (ap (λ v. Ok v) (law.values t.said ∙ sym t.value_is))

  -- what stands here breaks this rule
  abbrev Breaks : List S → W → Result K F → Type 0
  Breaks before rule read = read ≡ Err (f.fault_at (how_many before + 1) rule)

  breaks_with : (before : List S) (rule other : W) → rule ≡ other → Breaks before rule (Err (refused f r (r.known_of before) other))
  breaks_with before rule other e = rw e (ap (λ n. Err (f.fault_at (n + 1) other)) (law.counts before))

  last_sole : (before : List S) (last : List ℕ) (rule : W) (over : Bool) → LastBreaks g f over last rule → Breaks before rule (cond over (cond (length last == 0) (Ok (r.known_of before)) (Err (refused f r (r.known_of before) f.after))) (Err (refused f r (r.known_of before) f.ending)))
  last_sole before [] rule true h = absurd (h.0 refl)
  last_sole before (x ∷ xs) rule true h = rw (some_items x xs) (breaks_with before rule f.after h.1)
  last_sole before last rule false h = breaks_with before rule f.ending h

  mid_sole : (before : List S) (line next : List ℕ) (more : List (List ℕ)) (rule : W) (over : Bool) → g.is_over before ≡ over → Fit before → LineBreaks g f over before line rule → Breaks before rule (cond over (Err (refused f r (r.known_of before) f.after)) (then_read f r (r.known_of before) (r.read_line (r.known_of before) line) (λ new. read_lines f r new (next ∷ more))))
  mid_sole before line next more rule true o fit h = breaks_with before rule f.after h
  mid_sole before line next more rule false o fit h = rw (law.sole before line rule fit o h) (breaks_with before rule rule refl)

  rest_sole : (parts : List (List ℕ)) (before : List S) (rest : List (List ℕ)) (rule : W) → Begins g parts before rest → RestBreaks g f before rest rule → Breaks before rule (read_lines f r (r.known_of []) parts)
  unfolding read_lines
  rest_sole parts before [] rule b h = absurd h
  rest_sole parts before (last ∷ []) rule b h = complete parts before last [] b ∙ (rw (law.over before) (last_sole before last rule (g.is_over before) h))
  rest_sole parts before (line ∷ next ∷ more) rule b h = complete parts before line (next ∷ more) b ∙ (rw (law.over before) (mid_sole before line next more rule (g.is_over before) refl (fits parts before (line ∷ next ∷ more) b) h))

  pub fault_is_read : (text : List ℕ) (fault : F) → IsFault g f text fault → read_text f r g.most_bytes text ≡ Err fault
  fault_is_read text fault (inl p) = rw (past g.most_bytes (length text) p.0) (ap (λ v. Err v) (sym p.1))
  fault_is_read text fault (inr h) = rw (within g.most_bytes (length text) h.fits, rest_sole (lines text) h.before h.rest h.rule h.lines_say h.breaks) (ap (λ v. Err v) (sym h.fault_is))

  -- ---- and so each text is one of the two, and only once

  apart : (value : V) (fault : F) (x : Result V F) → x ≡ Ok value → x ≡ Err fault → ⊥
  apart value fault (Ok v) p q = absurd (cc)
  apart value fault (Err v) p q = absurd (cc)

  same_value : (x : Result V F) (one other : V) → x ≡ Ok one → x ≡ Ok other → one ≡ other
  same_value x one other p q = cc

  same_fault : (x : Result V F) (one other : F) → x ≡ Err one → x ≡ Err other → one ≡ other
  same_fault x one other p q = cc

  either_by : (text : List ℕ) (x : Result V F) → TextMeets g f text x → ((value : V) × IsText g text value) ⊎ ((fault : F) × IsFault g f text fault)
  either_by text (Ok value) m = inl (value, m)
  either_by text (Err fault) m = inr (fault, m)

  pub one_of : (text : List ℕ) → IsOneOf (λ value. IsText g text value) (λ fault. IsFault g f text fault)
  one_of text = record {
    either = either_by text _ (text_meets text);
    not_both = λ value fault t h. apart value fault _ (text_is_read text value t) (fault_is_read text fault h);
    one_value = λ one other t u. same_value _ one other (text_is_read text one t) (text_is_read text other u);
    one_fault = λ one other t u. same_fault _ one other (fault_is_read text one t) (fault_is_read text other u);
  }

  -- ---- one line after another

  pub one_line : (text rest after : List ℕ) (known new : K) → IsReached g r text rest known → IsNext r known new rest after → IsReached g r text after new
  one_line text rest after known new h n =
      let over : g.is_over h.said ≡ false = sym (law.over h.said) ∙ ap r.is_over (sym h.known_is) ∙ n.before_end in
      let P : Result K W → Type 0 = λ x. LineMeets g f r h.said n.line x in
      let Q : List (List ℕ) → Type 0 = λ parts. Begins g (lines text) h.said parts in
      let b = subst Q n.cut.cut h.lines_say in
      let m : LineMeets g f r h.said n.line (Ok new) = subst P (ap (λ k. r.read_line k n.line) (sym h.known_is) ∙ n.reads) (law.meets h.said n.line (fits (lines text) h.said _ b) over) in
      record { said = m.0 ∷ h.said; lines_say = (n.line, b, m.1); known_is = m.2 }

  reached_parts : (text rest : List ℕ) (known : K) (h : IsReached g r text rest known) → (p : Parts (lines rest)) → Begins g (lines text) h.said (p.first ∷ p.more)
  reached_parts text rest known h p = let Q : List (List ℕ) → Type 0 = λ parts. Begins g (lines text) h.said parts in subst Q p.are h.lines_say

  -- a text has no more lines than bytes
  pub reached_count : (text rest : List ℕ) (known : K) → IsReached g r text rest known → r.count known ≤ length text
  reached_count text rest known h =
      let p = some_part rest in
      rw (h.known_is, law.counts h.said) (few_lines g text h.said p.first p.more (reached_parts text rest known h p))

  -- what is read of the rest from here on is what is read of all
  pub reached_reads : (text rest : List ℕ) (known : K) → IsReached g r text rest known → read_lines f r known (lines rest) ≡ read_lines f r (r.known_of []) (lines text)
  reached_reads text rest known h =
      let p = some_part rest in
      rw (h.known_is, p.are) (sym (complete (lines text) h.said p.first p.more (reached_parts text rest known h p)))
