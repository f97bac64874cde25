-- What a line's fields are read as: what they say, or what is wrong with them.
use Rattle.std.proofs.Common.{sym, ◌^◌, ℕ, ◌≡◌, ◌≢◌, List, [], ◌∷◌, length, refl, ap, arith, ◌∙◌, subst, Result, Ok, Err, Bool, true, false, cond, lit<, ◌⊎◌, inl, inr}
use Rattle.std.specs.Fmt.{decimal}
use Rattle.std.specs.Prelude.{codes}
use Rattle.spie_base.specs.declared.types.Rules.{Rules}
use Rattle.trace_format.specs.Before.{Known, form_in}
use Rattle.line_text.specs.Answers.{◌>>=◌}
use Rattle.trace_format.specs.Reading.{link_by, plain_link, delayed_link, delayed_fields, pages_line, pages_fields, judged, name_in, number, kind_in, bytes_in, grown, accept, line_by, version_fields, version_line, shape_in, shape_line, router_fields, router_line, link_fields, link_line, begin_line, packet_line, fwd_fields, fwd_line, xf_fields, xf_line, rotate_line, archive_line, watch_fields, watch_line, tick_line, query_fields, query_line, end_line}
use Rattle.trace_format.specs.Said.{Said}
use Rattle.trace_format.specs.Said as said
use Rattle.trace_format.specs.Spelling.{Spells, SpellsLink, IsName, kind_word}
use Rattle.trace_format.specs.Versions.{version_text, version_in}
use Rattle.trace_format.specs.declared.version.Form.{Form}
use Rattle.spie_base.specs.declared.types.TheConstants.{K_MOST, N_LEAST, N_MOST}
use Rattle.trace_format.specs.Words.{word_said, word_text, arity}
use Rattle.trace_format.specs.declared.limits.TheConstants.{MOST_NUMBER, MOST_TIME, MOST_DELAY}
use Rattle.trace_format.specs.declared.refused.WhyRefused.{WhyRefused}
use Rattle.trace_format.specs.declared.refused.WhyRefused.TheVariants as why
use Rattle.trace_format.specs.declared.words.Word.{Word}
use Rattle.trace_format.specs.declared.words.Word.TheVariants as word
use Rattle.trace_format.proofs.FieldForms.{IsNumber, FieldMeets, bound, number_meets, name_meets, kind_meets, bytes_meets, IsPacket, version_meets, small, most_few, ShapeMeets, shape_meets}

-- a line that was taken: what it says, by its word and the fields behind it
pub record Accepted (known new : Known) (w : Word) (rest : List (List ℕ)) : Type 0 where
  pub said : Said
  pub word : word_said said ≡ w
  pub spelled : Spells (form_in known) said (word_text w ∷ rest)
  pub fits : judged known said ≡ Ok tt
  pub grows : new ≡ grown known said

-- a line whose content was judged
pub record Judged (known : Known) (w : Word) (rest : List (List ℕ)) (y : WhyRefused) : Type 0 where
  pub said : Said
  pub word : word_said said ≡ w
  pub spelled : Spells (form_in known) said (word_text w ∷ rest)
  pub accept_is : accept known said ≡ Err y

abbrev pub Trouble : Known → Word → List (List ℕ) → WhyRefused → Type 0
Trouble known w rest y = ((y ≡ why.Fields) × (length (word_text w ∷ rest) ≢ arity (form_in known) w)) ⊎ (((y ≡ why.Field) × (length (word_text w ∷ rest) ≡ arity (form_in known) w)) ⊎ Judged known w rest y)

-- the fields are what a line says, or this is wrong with them
abbrev pub Meets : Known → Word → List (List ℕ) → Result Known WhyRefused → Type 0
Meets known w rest (Ok new) = Accepted known new w rest
Meets known w rest (Err rule) = Trouble known w rest rule

accept_by : (known : Known) (w : Word) (rest : List (List ℕ)) (s : Said) → word_said s ≡ w → Spells (form_in known) s (word_text w ∷ rest) → (j : Result (Unit {0}) WhyRefused) → judged known s ≡ j → Meets known w rest (j >>= (λ fits. Ok (grown known s)))
unfolding accept
accept_by known w rest s is spelled (Ok u) e = record { said = s; word = is; spelled = spelled; fits = e; grows = refl }
accept_by known w rest s is spelled (Err rule) e = inr (inr (record { said = s; word = is; spelled = spelled; accept_is = rw e refl }))

accept_meets : (known : Known) (w : Word) (rest : List (List ℕ)) (s : Said) → word_said s ≡ w → Spells (form_in known) s (word_text w ∷ rest) → Meets known w rest (accept known s)
unfolding accept
accept_meets known w rest s is spelled = accept_by known w rest s is spelled _ refl

miscounted : (known : Known) (w : Word) (rest : List (List ℕ)) → length (word_text w ∷ rest) ≢ arity (form_in known) w → Meets known w rest (Err why.Fields)
miscounted known w rest n = inl (refl, n)

-- one field, and then the others, where there are as many as there should be
next : {A : Type 0} (known : Known) (w : Word) (rest : List (List ℕ)) (P : A → Type 0) (r : Result A WhyRefused) (f : A → Result Known WhyRefused) → FieldMeets P r → length (word_text w ∷ rest) ≡ arity (form_in known) w → ((x : A) → P x → Meets known w rest (f x)) → Meets known w rest (r >>= f)
next known w rest P r f m count more = bound P (λ read. Meets known w rest read) r f m more (inr (inl (refl, count)))

version : (known : Known) (rest : List (List ℕ)) → Meets known word.Trace rest (version_line known rest)
unfolding version_line version_fields
version known [] = miscounted known word.Trace [] (λ q. omega arith)
version known (v ∷ []) =
    next known word.Trace (v ∷ []) (λ x. v ≡ version_text x) (version_in v) _ (version_meets v) refl (λ x p.
    accept_meets known word.Trace (v ∷ []) (said.Version x) refl (ap (λ z. codes "spie-trace" ∷ z ∷ []) p))
version known (v ∷ x ∷ xs) = miscounted known word.Trace (v ∷ x ∷ xs) (λ q. omega arith)

shape_by : (known : Known) (rest : List (List ℕ)) (x : Result Rules WhyRefused) → ShapeMeets (form_in known) rest x → Meets known word.Shape rest (x >>= (λ r. accept known (said.Shape r)))
shape_by known rest (Ok r) h = accept_meets known word.Shape rest (said.Shape r) refl h
shape_by known rest (Err rule) (inl p) = inl p
shape_by known rest (Err rule) (inr p) = inr (inl p)

shape : (known : Known) (rest : List (List ℕ)) → Meets known word.Shape rest (shape_line known rest)
unfolding shape_line
shape known rest = shape_by known rest (shape_in (form_in known).n_most rest) (shape_meets (form_in known) (most_few known.version) rest)

router : (known : Known) (rest : List (List ℕ)) → Meets known word.Router rest (router_line known rest)
unfolding router_line router_fields
router known [] = miscounted known word.Router [] (λ q. omega arith)
router known (a ∷ []) = miscounted known word.Router (a ∷ []) (λ q. omega arith)
router known (a ∷ b ∷ []) =
    next known word.Router (a ∷ b ∷ []) (λ u. IsName a) (name_in a) _ (name_meets a) refl (λ x0 p0.
    next known word.Router (a ∷ b ∷ []) (λ u. IsName b) (name_in b) _ (name_meets b) refl (λ x1 p1.
    accept_meets known word.Router (a ∷ b ∷ []) (said.Router a b) refl (refl, p0, p1)))
router known (a ∷ b ∷ x ∷ xs) = miscounted known word.Router (a ∷ b ∷ x ∷ xs) (λ q. omega arith)

-- the number of fields of a link line, and their form, where links have delays or none
link_arity : (form : Form) (has : Bool) → form.has_delays ≡ has → arity form word.Link ≡ cond has 4 3
link_arity form has e = ap (λ (b : Bool). cond b 4 3) e

link_spelled : (form : Form) (has : Bool) (a b : List ℕ) (d : ℕ) (parts : List (List ℕ)) → form.has_delays ≡ has → SpellsLink has a b d parts → Spells form (said.Link a b d) parts
link_spelled form has a b d parts e s = let P : Bool → Type 0 = λ h. SpellsLink h a b d parts in subst P (sym e) s

plain : (known : Known) → (form_in known).has_delays ≡ false → (rest : List (List ℕ)) → Meets known word.Link rest (plain_link known rest)
unfolding plain_link link_fields
plain known e [] = miscounted known word.Link [] (λ q. let n = link_arity (form_in known) false e in omega (arith, q, n))
plain known e (a ∷ []) = miscounted known word.Link (a ∷ []) (λ q. let n = link_arity (form_in known) false e in omega (arith, q, n))
plain known e (a ∷ b ∷ []) =
    let n = sym (link_arity (form_in known) false e) in
    next known word.Link (a ∷ b ∷ []) (λ u. IsName a) (name_in a) _ (name_meets a) n (λ x0 p0.
    next known word.Link (a ∷ b ∷ []) (λ u. IsName b) (name_in b) _ (name_meets b) n (λ x1 p1.
    accept_meets known word.Link (a ∷ b ∷ []) (said.Link a b 0) refl (link_spelled (form_in known) false a b 0 _ e (refl, p0, p1, refl))))
plain known e (a ∷ b ∷ x ∷ xs) = miscounted known word.Link (a ∷ b ∷ x ∷ xs) (λ q. let n = link_arity (form_in known) false e in omega (arith, q, n))

delayed : (known : Known) → (form_in known).has_delays ≡ true → (rest : List (List ℕ)) → Meets known word.Link rest (delayed_link known rest)
unfolding delayed_link delayed_fields
delayed known e [] = miscounted known word.Link [] (λ q. let n = link_arity (form_in known) true e in omega (arith, q, n))
delayed known e (a ∷ []) = miscounted known word.Link (a ∷ []) (λ q. let n = link_arity (form_in known) true e in omega (arith, q, n))
delayed known e (a ∷ b ∷ []) = miscounted known word.Link (a ∷ b ∷ []) (λ q. let n = link_arity (form_in known) true e in omega (arith, q, n))
delayed known e (a ∷ b ∷ d ∷ []) =
    let n = sym (link_arity (form_in known) true e) in
    next known word.Link (a ∷ b ∷ d ∷ []) (λ u. IsName a) (name_in a) _ (name_meets a) n (λ x0 p0.
    next known word.Link (a ∷ b ∷ d ∷ []) (λ u. IsName b) (name_in b) _ (name_meets b) n (λ x1 p1.
    next known word.Link (a ∷ b ∷ d ∷ []) (λ n. IsNumber d 0 MOST_DELAY n) (number d 0 MOST_DELAY) _ (number_meets d 0 MOST_DELAY (lit< tt)) n (λ x2 p2.
    accept_meets known word.Link (a ∷ b ∷ d ∷ []) (said.Link a b x2) refl (link_spelled (form_in known) true a b x2 _ e (ap (λ z. codes "link" ∷ a ∷ b ∷ z ∷ []) p2.is, p0, p1, p2.high)))))
delayed known e (a ∷ b ∷ d ∷ x ∷ xs) = miscounted known word.Link (a ∷ b ∷ d ∷ x ∷ xs) (λ q. let n = link_arity (form_in known) true e in omega (arith, q, n))

link_has : (known : Known) (has : Bool) → (form_in known).has_delays ≡ has → (rest : List (List ℕ)) → Meets known word.Link rest (link_by has known rest)
link_has known false e rest = plain known e rest
link_has known true e rest = delayed known e rest

link : (known : Known) (rest : List (List ℕ)) → Meets known word.Link rest (link_line known rest)
unfolding link_line
link known rest = link_has known (form_in known).has_delays refl rest

pages : (known : Known) (rest : List (List ℕ)) → Meets known word.Pages rest (pages_line known rest)
unfolding pages_line pages_fields
pages known [] = miscounted known word.Pages [] (λ q. omega arith)
pages known (a ∷ []) = miscounted known word.Pages (a ∷ []) (λ q. omega arith)
pages known (a ∷ b ∷ []) = miscounted known word.Pages (a ∷ b ∷ []) (λ q. omega arith)
pages known (a ∷ b ∷ c ∷ []) = miscounted known word.Pages (a ∷ b ∷ c ∷ []) (λ q. omega arith)
pages known (a ∷ b ∷ c ∷ d ∷ []) =
    next known word.Pages (a ∷ b ∷ c ∷ d ∷ []) (λ u. IsName a) (name_in a) _ (name_meets a) refl (λ x0 p0.
    next known word.Pages (a ∷ b ∷ c ∷ d ∷ []) (λ n. IsNumber b 1 K_MOST n) (number b 1 K_MOST) _ (number_meets b 1 K_MOST (lit< tt)) refl (λ x1 p1.
    next known word.Pages (a ∷ b ∷ c ∷ d ∷ []) (λ n. IsNumber c N_LEAST N_MOST n) (number c N_LEAST N_MOST) _ (number_meets c N_LEAST N_MOST (lit< tt)) refl (λ x2 p2.
    next known word.Pages (a ∷ b ∷ c ∷ d ∷ []) (λ n. IsNumber d 1 (2 ^ x2) n) (number d 1 (2 ^ x2)) _ (number_meets d 1 (2 ^ x2) (small x2 p2.high)) refl (λ x3 p3.
    accept_meets known word.Pages (a ∷ b ∷ c ∷ d ∷ []) (said.Pages a x1 x2 x3) refl (
      ap (λ z. codes "pages" ∷ a ∷ z ∷ c ∷ d ∷ []) p1.is ∙ ap (λ z. codes "pages" ∷ a ∷ decimal x1 ∷ z ∷ d ∷ []) p2.is ∙ ap (λ z. codes "pages" ∷ a ∷ decimal x1 ∷ decimal x2 ∷ z ∷ []) p3.is,
      p0,
      record { marks = (p1.low, p1.high); size = (p2.low, p2.high); full = (p3.low, p3.high) },
    )))))
pages known (a ∷ b ∷ c ∷ d ∷ x ∷ xs) = miscounted known word.Pages (a ∷ b ∷ c ∷ d ∷ x ∷ xs) (λ q. omega arith)

begin : (known : Known) (rest : List (List ℕ)) → Meets known word.Begin rest (begin_line known rest)
unfolding begin_line
begin known [] = accept_meets known word.Begin [] said.Begin refl refl
begin known (x ∷ xs) = miscounted known word.Begin (x ∷ xs) (λ q. omega arith)

packet : (known : Known) (rest : List (List ℕ)) → Meets known word.Packet rest (packet_line known rest)
unfolding packet_line
packet known [] = miscounted known word.Packet [] (λ q. omega arith)
packet known (a ∷ []) =
    next known word.Packet (a ∷ []) (λ b. IsPacket a b) (bytes_in a) _ (bytes_meets a) refl (λ x0 p0.
    accept_meets known word.Packet (a ∷ []) (said.Packet x0) refl (a, refl, p0.0, p0.1, p0.2))
packet known (a ∷ x ∷ xs) = miscounted known word.Packet (a ∷ x ∷ xs) (λ q. omega arith)

fwd : (known : Known) (rest : List (List ℕ)) → Meets known word.Fwd rest (fwd_line known rest)
unfolding fwd_line fwd_fields
fwd known [] = miscounted known word.Fwd [] (λ q. omega arith)
fwd known (a ∷ []) = miscounted known word.Fwd (a ∷ []) (λ q. omega arith)
fwd known (a ∷ b ∷ []) =
    next known word.Fwd (a ∷ b ∷ []) (λ u. IsName a) (name_in a) _ (name_meets a) refl (λ x0 p0.
    next known word.Fwd (a ∷ b ∷ []) (λ n. IsNumber b 0 MOST_NUMBER n) (number b 0 MOST_NUMBER) _ (number_meets b 0 MOST_NUMBER (lit< tt)) refl (λ x1 p1.
    accept_meets known word.Fwd (a ∷ b ∷ []) (said.Fwd a x1) refl (ap (λ z. codes "fwd" ∷ a ∷ z ∷ []) p1.is, p0, p1.high)))
fwd known (a ∷ b ∷ x ∷ xs) = miscounted known word.Fwd (a ∷ b ∷ x ∷ xs) (λ q. omega arith)

xf : (known : Known) (rest : List (List ℕ)) → Meets known word.Xf rest (xf_line known rest)
unfolding xf_line xf_fields
xf known [] = miscounted known word.Xf [] (λ q. omega arith)
xf known (a ∷ []) = miscounted known word.Xf (a ∷ []) (λ q. omega arith)
xf known (a ∷ b ∷ []) = miscounted known word.Xf (a ∷ b ∷ []) (λ q. omega arith)
xf known (a ∷ b ∷ c ∷ []) = miscounted known word.Xf (a ∷ b ∷ c ∷ []) (λ q. omega arith)
xf known (a ∷ b ∷ c ∷ d ∷ []) =
    next known word.Xf (a ∷ b ∷ c ∷ d ∷ []) (λ u. IsName a) (name_in a) _ (name_meets a) refl (λ x0 p0.
    next known word.Xf (a ∷ b ∷ c ∷ d ∷ []) (λ k. b ≡ kind_word k) (kind_in b) _ (kind_meets b) refl (λ x1 p1.
    next known word.Xf (a ∷ b ∷ c ∷ d ∷ []) (λ n. IsNumber c 0 MOST_NUMBER n) (number c 0 MOST_NUMBER) _ (number_meets c 0 MOST_NUMBER (lit< tt)) refl (λ x2 p2.
    next known word.Xf (a ∷ b ∷ c ∷ d ∷ []) (λ n. IsNumber d 0 MOST_NUMBER n) (number d 0 MOST_NUMBER) _ (number_meets d 0 MOST_NUMBER (lit< tt)) refl (λ x3 p3.
    accept_meets known word.Xf (a ∷ b ∷ c ∷ d ∷ []) (said.Xf a x1 x2 x3) refl (ap (λ z. codes "xf" ∷ a ∷ z ∷ c ∷ d ∷ []) p1 ∙ ap (λ z. codes "xf" ∷ a ∷ kind_word x1 ∷ z ∷ d ∷ []) p2.is ∙ ap (λ z. codes "xf" ∷ a ∷ kind_word x1 ∷ decimal x2 ∷ z ∷ []) p3.is, p0, p2.high, p3.high)))))
xf known (a ∷ b ∷ c ∷ d ∷ x ∷ xs) = miscounted known word.Xf (a ∷ b ∷ c ∷ d ∷ x ∷ xs) (λ q. omega arith)

rotate : (known : Known) (rest : List (List ℕ)) → Meets known word.Rotate rest (rotate_line known rest)
unfolding rotate_line
rotate known [] = miscounted known word.Rotate [] (λ q. omega arith)
rotate known (a ∷ []) =
    next known word.Rotate (a ∷ []) (λ u. IsName a) (name_in a) _ (name_meets a) refl (λ x0 p0.
    accept_meets known word.Rotate (a ∷ []) (said.Rotate a) refl (refl, p0))
rotate known (a ∷ x ∷ xs) = miscounted known word.Rotate (a ∷ x ∷ xs) (λ q. omega arith)

archive : (known : Known) (rest : List (List ℕ)) → Meets known word.Archive rest (archive_line known rest)
unfolding archive_line
archive known [] = miscounted known word.Archive [] (λ q. omega arith)
archive known (a ∷ []) =
    next known word.Archive (a ∷ []) (λ u. IsName a) (name_in a) _ (name_meets a) refl (λ x0 p0.
    accept_meets known word.Archive (a ∷ []) (said.Archive a) refl (refl, p0))
archive known (a ∷ x ∷ xs) = miscounted known word.Archive (a ∷ x ∷ xs) (λ q. omega arith)

watch : (known : Known) (rest : List (List ℕ)) → Meets known word.Watch rest (watch_line known rest)
unfolding watch_line watch_fields
watch known [] = miscounted known word.Watch [] (λ q. omega arith)
watch known (a ∷ []) = miscounted known word.Watch (a ∷ []) (λ q. omega arith)
watch known (a ∷ b ∷ []) =
    next known word.Watch (a ∷ b ∷ []) (λ u. IsName a) (name_in a) _ (name_meets a) refl (λ x0 p0.
    next known word.Watch (a ∷ b ∷ []) (λ n. IsNumber b 0 MOST_NUMBER n) (number b 0 MOST_NUMBER) _ (number_meets b 0 MOST_NUMBER (lit< tt)) refl (λ x1 p1.
    accept_meets known word.Watch (a ∷ b ∷ []) (said.Watch a x1) refl (ap (λ z. codes "watch" ∷ a ∷ z ∷ []) p1.is, p0, p1.high)))
watch known (a ∷ b ∷ x ∷ xs) = miscounted known word.Watch (a ∷ b ∷ x ∷ xs) (λ q. omega arith)

tick : (known : Known) (rest : List (List ℕ)) → Meets known word.Tick rest (tick_line known rest)
unfolding tick_line
tick known [] = miscounted known word.Tick [] (λ q. omega arith)
tick known (a ∷ []) =
    next known word.Tick (a ∷ []) (λ n. IsNumber a 0 MOST_TIME n) (number a 0 MOST_TIME) _ (number_meets a 0 MOST_TIME (lit< tt)) refl (λ x0 p0.
    accept_meets known word.Tick (a ∷ []) (said.Tick x0) refl (ap (λ z. codes "tick" ∷ z ∷ []) p0.is, p0.high))
tick known (a ∷ x ∷ xs) = miscounted known word.Tick (a ∷ x ∷ xs) (λ q. omega arith)

query : (known : Known) (rest : List (List ℕ)) → Meets known word.Query rest (query_line known rest)
unfolding query_line query_fields
query known [] = miscounted known word.Query [] (λ q. omega arith)
query known (a ∷ []) = miscounted known word.Query (a ∷ []) (λ q. omega arith)
query known (a ∷ b ∷ []) = miscounted known word.Query (a ∷ b ∷ []) (λ q. omega arith)
query known (a ∷ b ∷ c ∷ []) =
    next known word.Query (a ∷ b ∷ c ∷ []) (λ u. IsName a) (name_in a) _ (name_meets a) refl (λ x0 p0.
    next known word.Query (a ∷ b ∷ c ∷ []) (λ n. IsNumber b 0 MOST_NUMBER n) (number b 0 MOST_NUMBER) _ (number_meets b 0 MOST_NUMBER (lit< tt)) refl (λ x1 p1.
    next known word.Query (a ∷ b ∷ c ∷ []) (λ n. IsNumber c 0 MOST_TIME n) (number c 0 MOST_TIME) _ (number_meets c 0 MOST_TIME (lit< tt)) refl (λ x2 p2.
    accept_meets known word.Query (a ∷ b ∷ c ∷ []) (said.Query a x1 x2) refl (ap (λ z. codes "query" ∷ a ∷ z ∷ c ∷ []) p1.is ∙ ap (λ z. codes "query" ∷ a ∷ decimal x1 ∷ z ∷ []) p2.is, p0, p1.high, p2.high))))
query known (a ∷ b ∷ c ∷ x ∷ xs) = miscounted known word.Query (a ∷ b ∷ c ∷ x ∷ xs) (λ q. omega arith)

end : (known : Known) (rest : List (List ℕ)) → Meets known word.End rest (end_line known rest)
unfolding end_line
end known [] = accept_meets known word.End [] said.End refl refl
end known (x ∷ xs) = miscounted known word.End (x ∷ xs) (λ q. omega arith)

line_meets : (known : Known) (w : Word) (rest : List (List ℕ)) → Meets known w rest (line_by known w rest)
unfolding line_by
line_meets known word.Trace rest = version known rest
line_meets known word.Shape rest = shape known rest
line_meets known word.Router rest = router known rest
line_meets known word.Link rest = link known rest
line_meets known word.Pages rest = pages known rest
line_meets known word.Begin rest = begin known rest
line_meets known word.Packet rest = packet known rest
line_meets known word.Fwd rest = fwd known rest
line_meets known word.Xf rest = xf known rest
line_meets known word.Rotate rest = rotate known rest
line_meets known word.Archive rest = archive known rest
line_meets known word.Watch rest = watch known rest
line_meets known word.Tick rest = tick known rest
line_meets known word.Query rest = query known rest
line_meets known word.End rest = end known rest

meets_at : (known : Known) (w : Word) (rest : List (List ℕ)) (x : Result Known WhyRefused) → line_by known w rest ≡ x → Meets known w rest x
meets_at known w rest x e = let P : Result Known WhyRefused → Type 0 = λ read. Meets known w rest read in subst P e (line_meets known w rest)

pub line_accepted : (known new : Known) (w : Word) (rest : List (List ℕ)) → line_by known w rest ≡ Ok new → Accepted known new w rest
line_accepted known new w rest e = meets_at known w rest (Ok new) e

pub line_err : (known : Known) (w : Word) (rest : List (List ℕ)) (rule : WhyRefused) → line_by known w rest ≡ Err rule → Trouble known w rest rule
line_err known w rest rule e = meets_at known w rest (Err rule) e
