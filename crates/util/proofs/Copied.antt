-- A row copied over its places. Assumes nothing.
use Rattle.std.proofs.Common.{rules, ◌≡◌, ℕ, ◌+◌, ◌<◌, ◌≤◌, List, length, get_or, ◌∙◌}
use borrow.Rule.Slice.PartMut.{put_mid}
use Rattle.std.proofs.lemmas.List.{places}
use Rattle.util.specs.Table.{Stored}

module _ {A : Type 0} (d : A) (w base : ℕ) where
  pub laid : (k : ℕ) (row part was : List A) → k ≡ w → part ≡ row → length row ≡ w → base + w ≤ length was
      → Stored d w base (λ v. get_or row v d) was (put_mid base k was part)
  laid k row part was e same size room =
      rw same (record {
        size = search (rules, places);
        done = λ i h. search (rules, places);
        kept = λ i h. search (rules, places);
      })

  pub copied : (has : ℕ → A) (k : ℕ) (row part was : List A) → k ≡ w → part ≡ row → length row ≡ w → base + w ≤ length was
      → ((v : ℕ) → v < w → get_or row v d ≡ has v) → Stored d w base has was (put_mid base k was part)
  copied has k row part was e alike size room each =
      let stored = laid k row part was e alike size room in
      record { size = stored.size; done = λ i h. stored.done i h ∙ each i h; kept = stored.kept }
