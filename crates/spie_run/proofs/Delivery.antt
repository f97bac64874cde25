-- What a run's answers tell of its input and output, exit by exit.
use Rattle.std.proofs.Common.{ℕ, ◌≡◌, ◌+◌, ◌<◌, List, [], ◌∷◌, ◌++◌, ◌∙◌, inl, inr, ⊎_elim, length, refl, sym, ap, subst, arith, lit<, true, false}
use Rattle.std.specs.Prelude.{codes, Some, None, IsSome}
use Rattle.std.specs.declared.option.Option.{Option}
use Rattle.std.specs.Io.KnownBytes.{Appends}
use Rattle.std.proofs.lemmas.Fmt.{decimal_digit}
use Rattle.spie_base.specs.Transfer.{TookCount}
use Rattle.spie_base.specs.declared.Status.{Status}
use Rattle.spie_base.specs.declared.Status.TheVariants as status
use Rattle.evidence_text.specs.declared.refused.CheckWhy.TheVariants.{TooLong}
use Rattle.trace_format.specs.Fault.{too_long}
use Rattle.trace_format.specs.Limits.{most_bytes}
use Rattle.spie_run.specs.Refusals.{fault_text}
use Rattle.spie_run.specs.declared.words.Command.{Command}
use Rattle.spie_run.specs.declared.words.Command.TheVariants.{Replay, Play, Pcap, PcapCount, Make, Load, Check}
use Rattle.spie_run.specs.Words.{is_replay, reads}
use Rattle.spie_run.specs.Run.{Outputs, Refuses, Answers, Keeping, Views, Told, Delivered, IsDone, IsDenied, Denies, IsRefused, IsCutShort, IsReadFor, IsReadOut, IsReadWhole, IsUntouched, HasFailed, Ran, kept_between}

-- all but a replay leaves shelf and yard as they are, and so does what is refused
still_at : (command : Command) (name : List ℕ) (kept : Keeping) (input output : List ℕ) → is_replay command ≡ false → Outputs command name kept input output → IsUntouched kept
still_at (Replay workers) name kept input output e made = absurd (cc)
still_at Play name kept input output e made = made.untouched
still_at (Pcap first skip) name kept input output e made = made.1
still_at PcapCount name kept input output e made = made.1
still_at (Make made) name kept input output e it = it.untouched
still_at (Load made workers) name kept input output e it = absurd (cc)
still_at Check name kept input output e made = made.1

-- only `check` says no
said_no : (command : Command) (kept : Keeping) (input output : List ℕ) → Denies command kept input output → command ≡ Check
said_no (Replay workers) kept input output it = absurd it
said_no Play kept input output it = absurd it
said_no (Pcap first skip) kept input output it = absurd it
said_no PcapCount kept input output it = absurd it
said_no (Make made) kept input output it = absurd it
said_no (Load made workers) kept input output it = absurd it
said_no Check kept input output it = refl

still_no : (command : Command) (kept : Keeping) (input output : List ℕ) → Denies command kept input output → IsUntouched kept
still_no (Replay workers) kept input output it = absurd it
still_no Play kept input output it = absurd it
still_no (Pcap first skip) kept input output it = absurd it
still_no PcapCount kept input output it = absurd it
still_no (Make made) kept input output it = absurd it
still_no (Load made workers) kept input output it = absurd it
still_no Check kept input output it = it.1

still_by : (command : Command) (name : List ℕ) (s : Status) (kept : Keeping) (input output : List ℕ) → is_replay command ≡ false → Answers command name s kept input output → IsUntouched kept
still_by command name status.Done kept input output e made = still_at command name kept input output e made
still_by command name status.TraceRefused kept input output e made = made.untouched
still_by command name status.No kept input output e it = still_no command kept input output it
still_by command name status.Usage kept input output e made = absurd made
still_by command name status.ReadFault kept input output e made = absurd made
still_by command name status.WriteFault kept input output e made = absurd made
still_by command name status.NoMemory kept input output e made = absurd made

-- an input that is longer than its limit
too_long_text : codes "refused 0 too-long\n" ≡ fault_text too_long
too_long_text = ap (λ digits. codes "refused " ++ digits ++ 32 ∷ codes "too-long" ++ 10 ∷ []) (sym (decimal_digit 0 (lit< tt)))

refused_long : (command : Command) (kept : Keeping) (input : List ℕ) → reads command ≡ true → IsUntouched kept → most_bytes < length input → Refuses command kept input (codes "refused 0 too-long\n")
refused_long (Replay workers) kept input e same long = record { why = record { fault = too_long; first = inl (inl (long, refl)); says = too_long_text }; untouched = same }
refused_long Play kept input e same long = record { why = record { fault = too_long; first = inl (long, refl); says = too_long_text }; untouched = same }
refused_long (Pcap first skip) kept input e same long = record { why = inl (long, refl); untouched = same }
refused_long PcapCount kept input e same long = record { why = inl (long, refl); untouched = same }
refused_long (Make made) kept input e same long = absurd (cc)
refused_long (Load made workers) kept input e same long = absurd (cc)
refused_long Check kept input e same long = record { why = record { fault = record { line = 0; why = TooLong }; first = inl (long, refl); says = too_long_text }; untouched = same }

-- an input that was read whole was read out
read_out : (command : Command) (before after : Told) (input : List ℕ) → IsReadWhole command before after input → IsReadFor command before after input
read_out (Replay workers) before after input r = (r.0, inl r.1)
read_out Play before after input r = (r.0, inl r.1)
read_out (Pcap first skip) before after input r = (r.0, inl r.1)
read_out PcapCount before after input r = (r.0, inl r.1)
read_out (Make made) before after input r = r
read_out (Load made workers) before after input r = r
read_out Check before after input r = (r.0, inl r.1)

-- a command that reads an input and read it out
read_for : (command : Command) (before after : Told) (input : List ℕ) → reads command ≡ true → IsReadOut before after input → IsReadFor command before after input
read_for (Replay workers) before after input e r = r
read_for Play before after input e r = r
read_for (Pcap first skip) before after input e r = r
read_for PcapCount before after input e r = r
read_for (Make made) before after input e r = absurd (cc)
read_for (Load made workers) before after input e r = absurd (cc)
read_for Check before after input e r = r

-- what is refused was read
refused_out : (command : Command) (kept : Keeping) (before after : Told) (input output : List ℕ) → Refuses command kept input output → IsReadWhole command before after input → IsReadOut before after input
refused_out (Replay workers) kept before after input output h r = (r.0, inl r.1)
refused_out Play kept before after input output h r = (r.0, inl r.1)
refused_out (Pcap first skip) kept before after input output h r = (r.0, inl r.1)
refused_out PcapCount kept before after input output h r = (r.0, inl r.1)
refused_out (Make made) kept before after input output h r = absurd h.why
refused_out (Load made workers) kept before after input output h r = absurd h.why
refused_out Check kept before after input output h r = (r.0, inl r.1)

-- a command that reads an input is no other
not_unread : (command c : Command) → command ≡ c → reads command ≡ true → reads c ≡ false → ⊥
not_unread command c e has no_input = let q : true ≡ false = sym has ∙ ap reads e ∙ no_input in cc

past_limit : (bytes : List ℕ) → length bytes ≡ most_bytes + 1 → most_bytes < length bytes
past_limit bytes e = omega (arith, e)

pub ran_same : (wanted other : Option Command) (name : List ℕ) (before after : Views) (answer : Status) → wanted ≡ other → Ran wanted name before after answer → Ran other name before after answer
ran_same wanted other name before after answer e r = subst (λ w. Ran w name before after answer) e r

pub never_usage : (command : Command) (name : List ℕ) (before after : Views) (answer : Status) → Ran (Some command) name before after answer → answer ≡ status.Usage → ⊥
never_usage command name before after answer r e = let q : Some command ≡ None = r.usage.0 e in cc

-- an unknown command or wrong arguments
pub ran_usage : (wanted : Option Command) (name : List ℕ) (v : Views) → wanted ≡ None → Ran wanted name v v status.Usage
ran_usage wanted name v none = record {
  done = λ e. absurd (let q : status.Usage ≡ status.Done = e in cc);
  denied = λ e. absurd (let q : status.Usage ≡ status.No = e in cc);
  refused = λ e. absurd (let q : status.Usage ≡ status.TraceRefused = e in cc);
  cut_short = λ e. absurd (let q : status.Usage ≡ status.WriteFault = e in cc);
  usage = ((λ e. none), (λ n. refl));
  read_fault = λ e. absurd (let q : status.Usage ≡ status.ReadFault = e in cc);
  write_fault = λ e. absurd (let q : status.Usage ≡ status.WriteFault = e in cc);
  faultless = λ h. absurd h;
  read_first = λ e. absurd (let q : status.Usage ≡ status.WriteFault = e in cc);
  unread = λ c e h. refl;
  idle = λ h. refl;
  shelfless = λ c e h. refl;
  unopened = λ h. refl;
  yardless = λ c e h. refl;
  complete = λ some. absurd (let q : IsSome {T = Command} None = subst IsSome none some in cc);
}

module _ (wanted : Option Command) (name : List ℕ) (before after : Views) (command : Command) (asked : wanted ≡ Some command) where
  no_usage : wanted ≡ None → ⊥
  no_usage none = let q : Some command ≡ None = sym asked ∙ none in cc

  same_command : (c : Command) → Some command ≡ Some c → command ≡ c
  same_command c e = cc

  not_replay : (c : Command) → wanted ≡ Some c → is_replay c ≡ false → is_replay command ≡ false
  not_replay c e h = ap is_replay (same_command c (sym asked ∙ e)) ∙ h

  -- a command that reads no input left the source as it was
  abbrev pub Alone : Type 0
  Alone = (c : Command) → wanted ≡ Some c → reads c ≡ false → after.source ≡ before.source

  pub alone_if : (reads command ≡ false → after.source ≡ before.source) → Alone
  alone_if still c e h = still (ap reads (same_command c (sym asked ∙ e)) ∙ h)

  pub alone_as_read : reads command ≡ true → Alone
  alone_as_read has c e h = absurd (not_unread command c (same_command c (sym asked ∙ e)) has h)

  -- the source failed
  pub ran_unread : Alone → HasFailed before.source after.source → after.shelf ≡ before.shelf → after.yard ≡ before.yard → Ran wanted name before after status.ReadFault
  ran_unread alone failed same unopened = record {
    done = λ e. absurd (let q : status.ReadFault ≡ status.Done = e in cc);
    denied = λ e. absurd (let q : status.ReadFault ≡ status.No = e in cc);
    refused = λ e. absurd (let q : status.ReadFault ≡ status.TraceRefused = e in cc);
    cut_short = λ e. absurd (let q : status.ReadFault ≡ status.WriteFault = e in cc);
    usage = ((λ e. absurd (let q : status.ReadFault ≡ status.Usage = e in cc)), (λ none. absurd (no_usage none)));
    read_fault = λ e. failed;
    write_fault = λ e. absurd (let q : status.ReadFault ≡ status.WriteFault = e in cc);
    faultless = λ h. absurd h;
    read_first = λ e. absurd (let q : status.ReadFault ≡ status.WriteFault = e in cc);
    unread = alone;
    idle = λ h. same;
    shelfless = λ c e h. same;
    unopened = λ h. unopened;
    yardless = λ c e h. unopened;
    complete = λ some well. absurd (well.0 failed);
  }

  -- memory was refused
  pub ran_no_memory : Alone → after.source.faults ≡ before.source.faults → after.sink.faults ≡ before.sink.faults → (is_replay command ≡ false → after.shelf ≡ before.shelf) → after.yard ≡ before.yard → Ran wanted name before after status.NoMemory
  ran_no_memory alone read kept still unopened = record {
    done = λ e. absurd (let q : status.NoMemory ≡ status.Done = e in cc);
    denied = λ e. absurd (let q : status.NoMemory ≡ status.No = e in cc);
    refused = λ e. absurd (let q : status.NoMemory ≡ status.TraceRefused = e in cc);
    cut_short = λ e. absurd (let q : status.NoMemory ≡ status.WriteFault = e in cc);
    usage = ((λ e. absurd (let q : status.NoMemory ≡ status.Usage = e in cc)), (λ none. absurd (no_usage none)));
    read_fault = λ e. absurd (let q : status.NoMemory ≡ status.ReadFault = e in cc);
    write_fault = λ e. absurd (let q : status.NoMemory ≡ status.WriteFault = e in cc);
    faultless = λ h. (read, kept);
    read_first = λ e. absurd (let q : status.NoMemory ≡ status.WriteFault = e in cc);
    unread = alone;
    idle = λ h. absurd h;
    shelfless = λ c e h. still (not_replay c e h);
    unopened = λ h. unopened;
    yardless = λ c e h. unopened;
    complete = λ some well. tt;
  }

  -- the output is written whole
  ran_done : Alone → IsDone wanted name before after → after.source.faults ≡ before.source.faults → after.sink.faults ≡ before.sink.faults → (is_replay command ≡ false → IsUntouched (kept_between before after)) → Ran wanted name before after status.Done
  ran_done alone is read kept still = record {
    done = λ e. is;
    denied = λ e. absurd (let q : status.Done ≡ status.No = e in cc);
    refused = λ e. absurd (let q : status.Done ≡ status.TraceRefused = e in cc);
    cut_short = λ e. absurd (let q : status.Done ≡ status.WriteFault = e in cc);
    usage = ((λ e. absurd (let q : status.Done ≡ status.Usage = e in cc)), (λ none. absurd (no_usage none)));
    read_fault = λ e. absurd (let q : status.Done ≡ status.ReadFault = e in cc);
    write_fault = λ e. absurd (let q : status.Done ≡ status.WriteFault = e in cc);
    faultless = λ h. (read, kept);
    read_first = λ e. absurd (let q : status.Done ≡ status.WriteFault = e in cc);
    unread = alone;
    idle = λ h. absurd h;
    shelfless = λ c e h. (still (not_replay c e h)).0;
    unopened = λ h. absurd h;
    yardless = λ c e h. (still (not_replay c e h)).1;
    complete = λ some well. tt;
  }

  -- the line of a no is written whole
  ran_denied : Alone → IsDenied wanted before after → after.source.faults ≡ before.source.faults → after.sink.faults ≡ before.sink.faults → Ran wanted name before after status.No
  ran_denied alone is read kept = record {
    done = λ e. absurd (let q : status.No ≡ status.Done = e in cc);
    denied = λ e. is;
    refused = λ e. absurd (let q : status.No ≡ status.TraceRefused = e in cc);
    cut_short = λ e. absurd (let q : status.No ≡ status.WriteFault = e in cc);
    usage = ((λ e. absurd (let q : status.No ≡ status.Usage = e in cc)), (λ none. absurd (no_usage none)));
    read_fault = λ e. absurd (let q : status.No ≡ status.ReadFault = e in cc);
    write_fault = λ e. absurd (let q : status.No ≡ status.WriteFault = e in cc);
    faultless = λ h. (read, kept);
    read_first = λ e. absurd (let q : status.No ≡ status.WriteFault = e in cc);
    unread = alone;
    idle = λ h. is.denies.1.0;
    shelfless = λ c e h. is.denies.1.0;
    unopened = λ h. is.denies.1.1;
    yardless = λ c e h. is.denies.1.1;
    complete = λ some well. tt;
  }

  -- the line of a refusal is written whole
  ran_refused : Alone → IsRefused wanted before after → after.source.faults ≡ before.source.faults → after.sink.faults ≡ before.sink.faults → Ran wanted name before after status.TraceRefused
  ran_refused alone is read kept = record {
    done = λ e. absurd (let q : status.TraceRefused ≡ status.Done = e in cc);
    denied = λ e. absurd (let q : status.TraceRefused ≡ status.No = e in cc);
    refused = λ e. is;
    cut_short = λ e. absurd (let q : status.TraceRefused ≡ status.WriteFault = e in cc);
    usage = ((λ e. absurd (let q : status.TraceRefused ≡ status.Usage = e in cc)), (λ none. absurd (no_usage none)));
    read_fault = λ e. absurd (let q : status.TraceRefused ≡ status.ReadFault = e in cc);
    write_fault = λ e. absurd (let q : status.TraceRefused ≡ status.WriteFault = e in cc);
    faultless = λ h. (read, kept);
    read_first = λ e. absurd (let q : status.TraceRefused ≡ status.WriteFault = e in cc);
    unread = alone;
    idle = λ h. is.refuses.untouched.0;
    shelfless = λ c e h. is.refuses.untouched.0;
    unopened = λ h. is.refuses.untouched.1;
    yardless = λ c e h. is.refuses.untouched.1;
    complete = λ some well. tt;
  }

  -- the sink failed
  ran_cut_short : Alone → IsCutShort wanted name before after → after.source.faults ≡ before.source.faults → HasFailed before.sink after.sink → (is_replay command ≡ false → IsUntouched (kept_between before after)) → Ran wanted name before after status.WriteFault
  ran_cut_short alone is read failed still = record {
    done = λ e. absurd (let q : status.WriteFault ≡ status.Done = e in cc);
    denied = λ e. absurd (let q : status.WriteFault ≡ status.No = e in cc);
    refused = λ e. absurd (let q : status.WriteFault ≡ status.TraceRefused = e in cc);
    cut_short = λ e. is;
    usage = ((λ e. absurd (let q : status.WriteFault ≡ status.Usage = e in cc)), (λ none. absurd (no_usage none)));
    read_fault = λ e. absurd (let q : status.WriteFault ≡ status.ReadFault = e in cc);
    write_fault = λ e. failed;
    faultless = λ h. absurd h;
    read_first = λ e. read;
    unread = alone;
    idle = λ h. absurd h;
    shelfless = λ c e h. (still (not_replay c e h)).0;
    unopened = λ h. absurd h;
    yardless = λ c e h. (still (not_replay c e h)).1;
    complete = λ some well. absurd (well.1 failed);
  }

  -- a text that is written whole ends the run as the answer says
  ran_whole : Alone → (want : Status) (text output : List ℕ) → IsReadWhole command before.source after.source text → after.source.faults ≡ before.source.faults
      → Answers command name want (kept_between before after) text output → Appends before.sink.bytes after.sink.bytes output → after.sink.faults ≡ before.sink.faults → Ran wanted name before after want
  ran_whole alone status.Done text output whole read answers wrote kept =
      ran_done alone (record { command = command; input = text; output = output; asked = asked; read = whole; made = answers; written = wrote }) read kept
      (λ e. still_by command name status.Done (kept_between before after) text output e answers)
  ran_whole alone status.TraceRefused text output whole read answers wrote kept =
      let out = refused_out command (kept_between before after) before.source after.source text output answers whole in
      ran_refused alone (record { command = command; input = text; output = output; asked = asked; read = out; refuses = answers; written = wrote }) read kept
  ran_whole alone status.No text output whole read answers wrote kept =
      let is = said_no command (kept_between before after) text output answers in
      let Whole : Command → Type 0 = λ c. IsReadWhole c before.source after.source text in
      let No : Command → Type 0 = λ c. Denies c (kept_between before after) text output in
      ran_denied alone (record { input = text; output = output; asked = asked ∙ ap Some is; read = subst Whole is whole; denies = subst No is answers; written = wrote }) read kept
  ran_whole alone status.Usage text output whole read answers wrote kept = absurd answers
  ran_whole alone status.ReadFault text output whole read answers wrote kept = absurd answers
  ran_whole alone status.WriteFault text output whole read answers wrote kept = absurd answers
  ran_whole alone status.NoMemory text output whole read answers wrote kept = absurd answers

  -- the input was read to its end, or there is none, and its answer delivered
  pub ran_reply : Alone → (want answer : Status) (text output : List ℕ) → IsReadWhole command before.source after.source text → after.source.faults ≡ before.source.faults
      → Answers command name want (kept_between before after) text output → Delivered want answer before.sink after.sink output → Ran wanted name before after answer
  ran_reply alone want answer text output whole read answers d =
      let P : Status → Type 0 = λ s. Ran wanted name before after s in
      let out = read_out command before.source after.source text whole in
      ⊎_elim
      (λ all. subst P (sym all.0) (ran_whole alone want text output whole read answers all.1.0 all.1.1))
      (λ cut.
      subst P (sym cut.0)
      (ran_cut_short alone (record { command = command; input = text; status = want; output = output; asked = asked; read = out; answers = answers; front = cut.1.0 }) read cut.1.1
      (λ e. still_by command name want (kept_between before after) text output e answers)))
      d.outcome

  -- the input is longer than its limit
  pub ran_long : reads command ≡ true → (answer : Status) → TookCount before.source.bytes after.source.bytes (λ count. count ≡ most_bytes + 1) → after.source.faults ≡ before.source.faults
      → Delivered status.TraceRefused answer before.sink after.sink (codes "refused 0 too-long\n") → IsUntouched (kept_between before after) → Ran wanted name before after answer
  ran_long has answer took read d same =
      let refuses = refused_long command (kept_between before after) took.0 has same (past_limit took.0 took.2) in
      let P : Status → Type 0 = λ s. Ran wanted name before after s in
      let alone = alone_as_read has in
      let out = read_for command before.source after.source took.0 has (took.1, inr took.2) in
      ⊎_elim
      (λ whole.
      subst P (sym whole.0)
      (ran_refused alone (record { command = command; input = took.0; output = codes "refused 0 too-long\n"; asked = asked; read = (took.1, inr took.2); refuses = refuses; written = whole.1.0 }) read whole.1.1))
      (λ cut.
      subst P (sym cut.0)
      (ran_cut_short alone
      (record { command = command; input = took.0; status = status.TraceRefused; output = codes "refused 0 too-long\n"; asked = asked; read = out; answers = refuses; front = cut.1.0 })
      read cut.1.1 (λ e. same)))
      d.outcome
