-- What a step of a session does: a zone whose lines are all taken, an endpoint that is held or released,
-- a question that is answered.
use Rattle.std.proofs.Common.{◌≡◌, ◌⊎◌, ℕ, List, ◌++◌, ◌==◌, true, refl, sym, subst, inl, inr}
use Rattle.std.specs.Prelude.{None, Some, Result, Ok, [], codes}
use Rattle.std.specs.Bool.{OnTrue, OnFalse}
use Rattle.sipl_names.specs.Labels.{Octets}
use Rattle.sipl_records.specs.declared.fault.AddressFault.{AddressFault}
use Rattle.sipl_masterfile.specs.Zones.{Zone}
use Rattle.sipl_choice.specs.declared.endpoint.Endpoint.{Endpoint}
use Rattle.sipl_srv.specs.declared.fault.DrawsFault.{DrawsFault}
use Rattle.sipl_uri.specs.declared.fault.UriFault.{UriFault}
use Rattle.sipl_uri.specs.declared.question.Question.{Question}
use Rattle.sipl_book.specs.declared.outcome.Handed.{Handed}
use Rattle.sipl_evidence.specs.Items.{Item}
use Rattle.sipl_lines.specs.Commands.{Keeps, ChangesHold, DoesInSpace, AnswersUri, ListsUri, handed_text}
use Rattle.sipl_lines.specs.Desk.{DeskRules}
use Rattle.sipl_lines.specs.ReplyText.{HasTargets, evidence_text, refusal_line}
use Rattle.sipl_lines.specs.Requests.{hold, release}
use Rattle.sipl_lines.specs.Gathering.{Gathers, GathersOrLoses, Loader, LoadsOrRefuses, Reads, lost, zone_gathered}
use Rattle.sipl_lines.specs.declared.desk_commands.HoldChange.TheVariants as change
use Rattle.sipl_lines.specs.declared.gather.Gathering.{Gathering}
use Rattle.sipl_lines.specs.declared.gather.LoadFault.{LoadFault}
use Rattle.sipl_lines.specs.declared.session.Session.{Session}
use Rattle.sipl_lines.specs.Session.{AppendsText, Performs, at_desk}

-- the last line is taken, and what was read is loaded
at_last : {S : Type 0} (loader : Loader S) (gathering : Gathering) (before : S) (text : Octets) (after : S) → (gathering.left == 0) ≡ true
    → LoadsOrRefuses loader (zone_gathered gathering.gathered) (loader.keep None before) text after → Gathers loader gathering before text after
at_last loader gathering before text after all loads =
    subst (λ b. OnTrue b (LoadsOrRefuses loader (zone_gathered gathering.gathered) (loader.keep None before) text after)
    × OnFalse b (Keeps [] (loader.keep (Some gathering) before) text after)) (sym all) (loads, tt {0})

-- all lines are taken, and what was read of them is loaded, or the reply says why there is none
pub all_taken : {S : Type 0} (loader : Loader S) (gathering : Gathering) (read : Result Zone LoadFault) (before after : S) (old new : Octets)
    → (gathering.left == 0) ≡ true → Reads gathering.gathered read
    → AppendsText (LoadsOrRefuses loader read) (loader.keep None before) old after new → AppendsText (GathersOrLoses loader gathering) before old after new
all_taken loader gathering read before after old new all (inl is) done =
    (done.0, inl (at_last loader gathering before done.0 after all (subst (λ r. LoadsOrRefuses loader r (loader.keep None before) done.0 after) is done.1)), done.2)
all_taken loader gathering read before after old new all (inr failed) done = (
  done.0,
  inr (failed.0, at_last loader (lost gathering.left) before done.0 after all (subst (λ r. LoadsOrRefuses loader r (loader.keep None before) done.0 after) failed.1 done.1)),
  done.2,
)

module _ {D F : Type 0} (rules : DeskRules D F) (before after : D) (old new : Octets) where
  pub held_at_desk : (session : Session) (endpoint : Result Endpoint AddressFault) (ms : ℕ)
      → AppendsText (ChangesHold rules (change.Hold ms) endpoint) before old after new
      → AppendsText (Performs rules (hold endpoint ms)) (at_desk before session) old (at_desk after session) new
  held_at_desk session endpoint ms done = (done.0, (done.1, refl), done.2)

  pub released_at_desk : (session : Session) (endpoint : Result Endpoint AddressFault)
      → AppendsText (ChangesHold rules change.Release endpoint) before old after new
      → AppendsText (Performs rules (release endpoint)) (at_desk before session) old (at_desk after session) new
  released_at_desk session endpoint done = (done.0, (done.1, refl), done.2)

  -- the desk has done its part, and the reply stands, or `err Memory` where there was no space
  done_in_space : {A : Type 0} (Acts : D → Result A F → D → Type 0) (IsLong : A → Type 0) (reply_of : A → Octets) (value : A) → Acts before (Ok value) after
      → (new ≡ old ++ reply_of value) ⊎ (IsLong value × (new ≡ old ++ refusal_line (codes "Memory")))
      → AppendsText (DoesInSpace rules Acts IsLong reply_of) before old after new
  done_in_space Acts IsLong reply_of value acts (inl whole) = (reply_of value, inl (Ok value, acts, refl), whole)
  done_in_space Acts IsLong reply_of value acts (inr none) = (refusal_line (codes "Memory"), inr (value, acts, none.0, refl), none.1)

  pub answered_uri : (read : Result Question UriFault) (draws : Result (List ℕ) DrawsFault) (question : Question) (words : List ℕ) (handed : Handed)
      → read ≡ Ok question → draws ≡ Ok words → rules.Finds question words before (Ok handed) after
      → (new ≡ old ++ handed_text handed) ⊎ (HasTargets handed.answer × (new ≡ old ++ refusal_line (codes "Memory")))
      → AppendsText (AnswersUri rules read draws) before old after new
  answered_uri read draws question words handed is_read is_draws finds reply =
      subst (λ q. AppendsText (AnswersUri rules q draws) before old after new) (sym is_read)
      (subst (λ d. AppendsText (AnswersUri rules (Ok question) d) before old after new) (sym is_draws)
      (done_in_space (rules.Finds question words) (λ (h : Handed). HasTargets h.answer) handed_text handed finds reply))

  pub listed_uri : (read : Result Question UriFault) (question : Question) (items : List Item)
      → read ≡ Ok question → rules.Depends question before (Ok items) after
      → (new ≡ old ++ evidence_text items) ⊎ (new ≡ old ++ refusal_line (codes "Memory"))
      → AppendsText (ListsUri rules read) before old after new
  listed_uri read question items is_read depends reply =
      subst (λ q. AppendsText (ListsUri rules q) before old after new) (sym is_read)
      (done_in_space (rules.Depends question) (λ (i : List Item). Unit {0}) evidence_text items depends (listed reply))
    where
      listed : (new ≡ old ++ evidence_text items) ⊎ (new ≡ old ++ refusal_line (codes "Memory"))
          → (new ≡ old ++ evidence_text items) ⊎ (Unit {0} × (new ≡ old ++ refusal_line (codes "Memory")))
      listed (inl whole) = inl whole
      listed (inr none) = inr (tt, none)
