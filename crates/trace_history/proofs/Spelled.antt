-- What a line asks for fixes the kind of its event, and what the event is about.
use Rattle.std.proofs.Common.{◌≡◌, ℕ, refl, ap, List}
use Rattle.spie_base.specs.declared.Sig.{Sig}
use Rattle.trace_format.specs.declared.What.{What}
use Rattle.trace_format.specs.declared.What.TheVariants.{Fwd, Xf, Rotate, Archive, Watch, Tick, Query, End}
use Rattle.router_account.specs.declared.Watch.{Watch as WatchAnswer}
use Rattle.trace_history.specs.History.{Event, recorded, rotated, archived, watched, ticked, queried, ended, HasSig, Hop, IsChange, IsEventOf, QueryRun, same}

abbrev pub Spelled : List Sig → What → Event → Type 0
Spelled sigs (Fwd router packet) d = (hop : Hop) × (page : ℕ) × (d ≡ recorded hop page) × (hop.router ≡ router.number) × HasSig sigs packet hop.sig × (hop.origin ≡ same)
Spelled sigs (Xf router kind old new) d = (hop : Hop) × (page : ℕ) × (d ≡ recorded hop page) × (hop.router ≡ router.number) × HasSig sigs new hop.sig × IsChange sigs kind old hop.origin
Spelled sigs (Rotate router) d = (r page : ℕ) × (d ≡ rotated r page) × (r ≡ router.number)
Spelled sigs (Archive router) d = (r : ℕ) × (put kept : List ℕ) × (d ≡ archived r put kept) × (r ≡ router.number)
Spelled sigs (Watch router packet) d = (r : ℕ) × (sig : Sig) × (answer : WatchAnswer) × (d ≡ watched r sig answer) × (r ≡ router.number) × HasSig sigs packet sig
Spelled sigs (Tick time) d = (left : ℕ → List ℕ) × (d ≡ ticked time left)
Spelled sigs (Query router packet time) d = (query : QueryRun) × (left : ℕ → List ℕ) × (d ≡ queried query left) × (query.router ≡ router.number) × HasSig sigs packet query.sig × (query.time ≡ time)
Spelled sigs End d = (left : ℕ → List ℕ) × (d ≡ ended left)

pub spelled : (sigs : List Sig) (w : What) (d : Event) → IsEventOf sigs w d → Spelled sigs w d
spelled sigs (Fwd router packet) (recorded hop page) is = (hop, page, refl, is.0, is.1, is.2)
spelled sigs (Fwd router packet) (rotated r page) is = absurd is
spelled sigs (Fwd router packet) (archived r put kept) is = absurd is
spelled sigs (Fwd router packet) (watched r sig answer) is = absurd is
spelled sigs (Fwd router packet) (ticked t left) is = absurd is
spelled sigs (Fwd router packet) (queried query left) is = absurd is
spelled sigs (Fwd router packet) (ended left) is = absurd is
spelled sigs (Xf router kind old new) (recorded hop page) is = (hop, page, refl, is.0, is.1, is.2)
spelled sigs (Xf router kind old new) (rotated r page) is = absurd is
spelled sigs (Xf router kind old new) (archived r put kept) is = absurd is
spelled sigs (Xf router kind old new) (watched r sig answer) is = absurd is
spelled sigs (Xf router kind old new) (ticked t left) is = absurd is
spelled sigs (Xf router kind old new) (queried query left) is = absurd is
spelled sigs (Xf router kind old new) (ended left) is = absurd is
spelled sigs (Rotate router) (recorded hop page) is = absurd is
spelled sigs (Rotate router) (rotated r page) is = (r, page, refl, is)
spelled sigs (Rotate router) (archived r put kept) is = absurd is
spelled sigs (Rotate router) (watched r sig answer) is = absurd is
spelled sigs (Rotate router) (ticked t left) is = absurd is
spelled sigs (Rotate router) (queried query left) is = absurd is
spelled sigs (Rotate router) (ended left) is = absurd is
spelled sigs (Archive router) (recorded hop page) is = absurd is
spelled sigs (Archive router) (rotated r page) is = absurd is
spelled sigs (Archive router) (archived r put kept) is = (r, put, kept, refl, is)
spelled sigs (Archive router) (watched r sig answer) is = absurd is
spelled sigs (Archive router) (ticked t left) is = absurd is
spelled sigs (Archive router) (queried query left) is = absurd is
spelled sigs (Archive router) (ended left) is = absurd is
spelled sigs (Watch router packet) (recorded hop page) is = absurd is
spelled sigs (Watch router packet) (rotated r page) is = absurd is
spelled sigs (Watch router packet) (archived r put kept) is = absurd is
spelled sigs (Watch router packet) (watched r sig answer) is = (r, sig, answer, refl, is.0, is.1)
spelled sigs (Watch router packet) (ticked t left) is = absurd is
spelled sigs (Watch router packet) (queried query left) is = absurd is
spelled sigs (Watch router packet) (ended left) is = absurd is
spelled sigs (Tick time) (recorded hop page) is = absurd is
spelled sigs (Tick time) (rotated r page) is = absurd is
spelled sigs (Tick time) (archived r put kept) is = absurd is
spelled sigs (Tick time) (watched r sig answer) is = absurd is
spelled sigs (Tick time) (ticked t left) is = (left, ap (λ (x : ℕ). ticked x left) is)
spelled sigs (Tick time) (queried query left) is = absurd is
spelled sigs (Tick time) (ended left) is = absurd is
spelled sigs (Query router packet time) (recorded hop page) is = absurd is
spelled sigs (Query router packet time) (rotated r page) is = absurd is
spelled sigs (Query router packet time) (archived r put kept) is = absurd is
spelled sigs (Query router packet time) (watched r sig answer) is = absurd is
spelled sigs (Query router packet time) (ticked t left) is = absurd is
spelled sigs (Query router packet time) (queried query left) is = (query, left, refl, is.0, is.1, is.2)
spelled sigs (Query router packet time) (ended left) is = absurd is
spelled sigs End (recorded hop page) is = absurd is
spelled sigs End (rotated r page) is = absurd is
spelled sigs End (archived r put kept) is = absurd is
spelled sigs End (watched r sig answer) is = absurd is
spelled sigs End (ticked t left) is = absurd is
spelled sigs End (queried query left) is = absurd is
spelled sigs End (ended left) is = (left, refl)
