-- What a reader must believe of this crate: `Entry`, over the definitions of a burst in crate `forms`. `Base` is what
-- layout 1 is held to.
pub mod Entry
pub mod Base
