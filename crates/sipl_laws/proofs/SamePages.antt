-- Pages of one text have the same events.
use Rattle.std.proofs.Common.{◌≡◌, ℕ, ◌+◌, ◌*◌, List, [], ◌∷◌, ◌++◌, length, map, refl, sym, ap, ◌∙◌, arith, append_assoc, length-append, codes, decimal}
use Rattle.std.specs.List.{AllByRecursion, flat_map}
use Rattle.std.proofs.lemmas.List.{append_cancel_left}
use Rattle.hex.specs.Hex.{encode_lower, lower_digits}
use Rattle.hex.proofs.HexLemmas.{length-encode_with}
use Rattle.sha2.specs.Sha256.{sha256}
use Rattle.sha2.proofs.Facts256.{length-sha256}
use Rattle.sipl_names.specs.Labels.{Octets}
use Rattle.sipl_book.specs.declared.event.Event.{Event}
use Rattle.sipl_book.specs.Pages.{PageState}
use Rattle.sipl_lines.specs.CommandText.{event_lines}
use Rattle.sipl_archive.specs.Archive.{body_text, digest_line, file_text, page_head, page_text}
use Rattle.sipl_laws.specs.Events.{IsEvent, IsPage, kept_event}
use Rattle.sipl_laws.proofs.SameEvents.{Readers, same-events}
use Rattle.sipl_laws.proofs.SameLines.{same-number}

-- two texts that end in as many octets
same-ends : (a b r q : Octets) → length r ≡ length q → a ++ r ≡ b ++ q → a ≡ b
same-ends [] [] r q long is = refl
same-ends [] (c ∷ b) r q long is =
    absurd (let all : length r ≡ length ((c ∷ b) ++ q) = ap length is in omega (arith, long, all, length-append (c ∷ b) q))
same-ends (c ∷ a) [] r q long is =
    absurd (let all : length ((c ∷ a) ++ r) ≡ length q = ap length is in omega (arith, long, all, length-append (c ∷ a) r))
same-ends (c ∷ a) (d ∷ b) r q long is =
    let first : c ≡ d = let same = is in cc in
    let rest = same-ends a b r q long (let same = is in cc) in
    λ i. first i ∷ rest i

digest-length : (text : Octets) → length (digest_line (sha256 text)) ≡ 72
digest-length text =
    let digits : length (encode_lower (sha256 text)) ≡ 2 * length (sha256 text) = length-encode_with lower_digits (sha256 text) in
    let line : length (digest_line (sha256 text)) ≡ length (codes "sha256 " ++ encode_lower (sha256 text)) + 1 = length-append (codes "sha256 " ++ encode_lower (sha256 text)) (10 ∷ []) in
    let words : length (codes "sha256 " ++ encode_lower (sha256 text)) ≡ 7 + length (encode_lower (sha256 text)) = length-append (codes "sha256 ") (encode_lower (sha256 text)) in
    omega (arith, digits, line, words, length-sha256 text)

-- pages of one text have one text before the digest
pub same-bodies : (head other : Octets) (es fs : List Event) → page_text head es ≡ page_text other fs → body_text head es ≡ body_text other fs
same-bodies head other es fs is =
    let one : Octets = body_text head es in
    let two : Octets = body_text other fs in
    same-ends one two (digest_line (sha256 one)) (digest_line (sha256 two)) (digest-length one ∙ sym (digest-length two)) is

head-parts : (first count : ℕ) (client r : Octets) → page_head first count client ++ r ≡ codes "siplocd page " ++ (decimal first ++ 32 ∷ (decimal count ++ 10 ∷ (client ++ 10 ∷ r)))
head-parts first count client r = simp append_assoc

module _ (reads : Readers) where
  pub same-pages : (head : Octets) (es fs : List Event) → AllByRecursion IsEvent es → AllByRecursion IsEvent fs → page_text head es ≡ page_text head fs → map kept_event es ≡ map kept_event fs
  same-pages head es fs all each is =
      same-events reads es fs all each (append_cancel_left head (flat_map event_lines es) (flat_map event_lines fs) (same-bodies head head es fs is))

  pub same-files : (client : Octets) (page other : PageState) → IsPage page → IsPage other → file_text client page ≡ file_text client other → (page.first ≡ other.first) × (map kept_event page.events ≡ map kept_event other.events)
  same-files client page other small brief is =
      let one : Octets = flat_map event_lines page.events in
      let two : Octets = flat_map event_lines other.events in
      let bodies = same-bodies (page_head page.first (length page.events) client) (page_head other.first (length other.events) client) page.events other.events is in
      let line = append_cancel_left (codes "siplocd page ") _ _ (sym (head-parts page.first (length page.events) client one) ∙ bodies ∙ head-parts other.first (length other.events) client two) in
      let first = same-number page.first other.first 32 _ _ (omega arith) small.first brief.first refl refl line in
      let count = same-number (length page.events) (length other.events) 10 (10 ∷ (client ++ 10 ∷ one)) (10 ∷ (client ++ 10 ∷ two)) (omega arith) small.few brief.few refl refl (let rest = first.1 in cc) in
      let after : client ++ 10 ∷ one ≡ client ++ 10 ∷ two = let rest = count.1 in cc in
      let events : 10 ∷ one ≡ 10 ∷ two = append_cancel_left client (10 ∷ one) (10 ∷ two) after in
      (first.0, same-events reads page.events other.events small.events brief.events (let rest = events in cc))
