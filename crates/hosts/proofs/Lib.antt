pub mod LivesOn
